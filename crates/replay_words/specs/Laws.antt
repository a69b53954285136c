-- What is known of the words that are commands.
use Rattle.std.specs.Prelude.{◌≡◌, ℕ, true, false, List, [], ◌∷◌, codes}
use Rattle.replay_words.specs.Commands.{IsCommand}
use Rattle.replay_words.specs.declared.command.Command.{Command}
use Rattle.replay_words.specs.declared.command.Command.TheVariants.{Gen, Replay}

-- words are those of one command at most
abbrev pub WordsAreClear : Type 0
WordsAreClear = (words : List (List ℕ)) (one other : Command) → IsCommand words one → IsCommand words other
    → one ≡ other

-- these are commands, and these are none
pub record FormsAreCommands : Type 0 where
  pub replay : IsCommand (codes "replay" ∷ []) (Replay false)
  pub moves : IsCommand (codes "replay" ∷ codes "--moves" ∷ []) (Replay true)
  pub gen : IsCommand (codes "gen" ∷ codes "7" ∷ codes "4" ∷ codes "9" ∷ []) (Gen 7 4 9)
  pub other : (command : Command) → IsCommand (codes "replay" ∷ codes "now" ∷ []) command → ⊥
  pub help : (command : Command) → IsCommand (codes "replay" ∷ codes "--help" ∷ []) command → ⊥
