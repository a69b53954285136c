-- Which words are commands.
use Rattle.std.specs.Prelude.{◌≡◌, ◌≢◌, ℕ, ◌≤◌, ◌<◌, ◌^◌, Bool, true, false, List, [], codes, slice_get, Some, None}
use Rattle.std.specs.Fmt.{decimal}
use Rattle.std.specs.declared.option.Option.{Option}
use Rattle.pool_types.specs.Limits.{most_threads}
use Rattle.clap.specs.Faults.{fault_of}
use Rattle.clap.specs.Simple.{App, matches_of}
use Rattle.clap.specs.Walk.{Row, first_of, rows_of}
use Rattle.clap.specs.Words.{found_of}
use Rattle.clap.specs.declared.parser.matches.ArgMatches.{ArgMatches}
use Rattle.replay_words.specs.Apps.{gen_app, replay_app}
use Rattle.replay_words.specs.declared.command.Command.{Command}
use Rattle.replay_words.specs.declared.command.Command.TheVariants.{Gen, Replay}
use Rattle.replay_words.specs.declared.words.Name.{Name}
use Rattle.replay_words.specs.declared.words.Name.TheVariants as name

-- a generated trace has at most so many calls
abbrev pub most_calls : ℕ
most_calls = 20000

-- the words, of which the first names the command, are accepted by it
unfoldable pub IsAccepted : App → List (List ℕ) → Type 0
IsAccepted app words = fault_of app words ≡ []

-- what the words give the command
unfoldable pub rows_given : App → List (List ℕ) → List Row
rows_given app words = matches_of app words

-- the flag `--moves` is given, or is not
unfoldable pub HasMoves : List Row → Bool → Type 0
HasMoves rows true = first_of (codes "moves") rows ≡ Some (codes "true")
HasMoves rows false = first_of (codes "moves") rows ≢ Some (codes "true")

-- the text of this name spells the number
unfoldable pub Gives : List ℕ → List Row → ℕ → Type 0
Gives id rows number = first_of id rows ≡ Some (decimal number)

-- a generated trace may have so many threads and calls
pub record AreInRange (threads calls : ℕ) : Type 0 where
  pub some : 1 ≤ threads
  pub threads_in : threads ≤ most_threads
  pub calls_in : calls ≤ most_calls

-- the numbers of a generated trace, in their ranges
pub record AreNumbers (rows : List Row) (seed threads calls : ℕ) : Type 0 where
  pub seed_given : Gives (codes "seed") rows seed
  pub seed_in : seed < 2 ^ 64
  pub threads_given : Gives (codes "threads") rows threads
  pub calls_given : Gives (codes "calls") rows calls
  pub in_range : AreInRange threads calls

-- the words of a replay, with its moves or without them
pub record IsReplay (words : List (List ℕ)) (moves : Bool) : Type 0 where
  pub first : slice_get words 0 ≡ Some (codes "replay")
  pub accepted : IsAccepted replay_app words
  pub has : HasMoves (rows_given replay_app words) moves

-- the words that ask for a generated trace
pub record IsGen (words : List (List ℕ)) (seed threads calls : ℕ) : Type 0 where
  pub first : slice_get words 0 ≡ Some (codes "gen")
  pub accepted : IsAccepted gen_app words
  pub numbers : AreNumbers (rows_given gen_app words) seed threads calls

-- the words are those of this command
abbrev pub IsCommand : List (List ℕ) → Command → Type 0
IsCommand words (Replay moves) = IsReplay words moves
IsCommand words (Gen seed threads calls) = IsGen words seed threads calls

-- what the words are read as: a command, or none
abbrev pub ReadsCommand : List (List ℕ) → Option Command → Type 0
ReadsCommand words (Some command) = IsCommand words command
ReadsCommand words None = (command : Command) → IsCommand words command → ⊥

-- what a command makes of the words, where it accepts them
abbrev pub Accepts : App → List (List ℕ) → Option ArgMatches → Type 0
Accepts app words (Some matches) = IsAccepted app words × (rows_of (found_of matches) ≡ rows_given app words)
Accepts app words None = IsAccepted app words → ⊥

-- the number that a text spells, or that it spells none
abbrev pub GivesNumber : List ℕ → List Row → Option ℕ → Type 0
GivesNumber id rows (Some number) = Gives id rows number × (number < 2 ^ 64)
GivesNumber id rows None = (number : ℕ) → number < 2 ^ 64 → Gives id rows number → ⊥

-- the numbers that the texts spell, or that they spell none in their ranges
abbrev pub ReadsNumbers : List Row → Option Command → Type 0
ReadsNumbers rows (Some (Gen seed threads calls)) = AreNumbers rows seed threads calls
ReadsNumbers rows (Some (Replay moves)) = ⊥
ReadsNumbers rows None = (seed threads calls : ℕ) → AreNumbers rows seed threads calls → ⊥

-- the command that the first word names
abbrev pub IsNamed : List (List ℕ) → Name → Type 0
IsNamed words name.Replay = slice_get words 0 ≡ Some (codes "replay")
IsNamed words name.Gen = slice_get words 0 ≡ Some (codes "gen")
IsNamed words name.Other = (slice_get words 0 ≢ Some (codes "replay")) × (slice_get words 0 ≢ Some (codes "gen"))
