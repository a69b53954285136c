-- What a move answers is determined.
use Rattle.std.proofs.Common.{◌≡◌, ◌⊎◌, inl, inr, ℕ, ◌<◌, List, [], ◌∷◌, Ok, Err, refl, sym, ◌∙◌, ap}
use Rattle.std.specs.declared.option.Option.{Option}
use Rattle.std.proofs.lemmas.Bool.{cases_order}
use Rattle.pool_types.specs.declared.values.Place.{Place}
use Rattle.part_model.specs.declared.holders.Holder.{Holder}
use Rattle.part_model.specs.declared.moves.Part.{Part}
use Rattle.part_model.specs.declared.partition.ApplyError.TheVariants.{Unlawful, NoMemory}
use Rattle.part_model.specs.Holding.{Holding, CanMove, CanMoveAll, IsFirstRefused, IsRefusedAt}
use Rattle.part_model.specs.Laws.{MovesAnswerOnce}
use Rattle.part_model.proofs.Ranges.{lies_in-parts, place_is}

-- a part that can be made has no byte in the way
pub not_refused : (seat : ℕ) (held : Holding) (part : Part) (byte : Place) → CanMove seat held part → IsFirstRefused seat held part byte → ⊥
not_refused seat held part byte can refused = refused.refused can.lawful (can.there byte refused.inside)

pub none_refused : (seat : ℕ) (held : Holding) (parts : List Part) (byte : Place) (there wanted : Option Holder) → CanMoveAll seat held parts → IsRefusedAt seat held parts byte there wanted → ⊥
none_refused seat held [] byte there wanted can refused = refused
none_refused seat held (part ∷ parts) byte there wanted (can, rest) (inl (first, there_is, wanted_is)) = not_refused seat held part byte can first
none_refused seat held (part ∷ parts) byte there wanted (can, rest) (inr (before, later)) = none_refused seat held parts byte there wanted rest later

-- a byte before the first in the way isn't in the way
pub not_before : (seat : ℕ) (held : Holding) (part : Part) (byte other : Place) → IsFirstRefused seat held part byte → IsFirstRefused seat held part other → byte.offset < other.offset → ⊥
not_before seat held part byte other one two less =
    let fine = two.first byte one.inside less in
    one.refused fine.0 fine.1

-- the first byte in the way of a part is one byte
pub first_is_one : (seat : ℕ) (held : Holding) (part : Part) (byte other : Place) → IsFirstRefused seat held part byte → IsFirstRefused seat held part other → byte ≡ other
first_is_one seat held part byte other one two =
    place_is byte part.range.place (lies_in-parts byte part.range one.inside).region
    ∙ ap at_offset (same_offset (cases_order byte.offset other.offset))
    ∙ sym (place_is other part.range.place (lies_in-parts other part.range two.inside).region)
  where
    at_offset : ℕ → Place
    at_offset offset = record { pool = part.range.place.pool; region = part.range.place.region; offset = offset }

    same_offset : (byte.offset ≡ other.offset) ⊎ ((byte.offset < other.offset) ⊎ (other.offset < byte.offset)) → byte.offset ≡ other.offset
    same_offset (inl same) = same
    same_offset (inr (inl less)) = absurd (not_before seat held part byte other one two less)
    same_offset (inr (inr more)) = absurd (not_before seat held part other byte two one more)

-- two refusals of one move are one
pub refused_is_one : (seat : ℕ) (held : Holding) (parts : List Part) (byte byte' : Place) (there there' wanted wanted' : Option Holder) →
    IsRefusedAt seat held parts byte there wanted → IsRefusedAt seat held parts byte' there' wanted' → (byte ≡ byte') × (there ≡ there') × (wanted ≡ wanted')
refused_is_one seat held [] byte byte' there there' wanted wanted' one two = absurd one
refused_is_one seat held (part ∷ parts) byte byte' there there' wanted wanted' (inl (first, there_is, wanted_is)) (inl (first', there_is', wanted_is')) =
    let same = first_is_one seat held part byte byte' first first' in
    (same, there_is ∙ ap held same ∙ sym there_is', wanted_is ∙ sym wanted_is')
refused_is_one seat held (part ∷ parts) byte byte' there there' wanted wanted' (inl (first, there_is, wanted_is)) (inr (can, later)) = absurd (not_refused seat held part byte can first)
refused_is_one seat held (part ∷ parts) byte byte' there there' wanted wanted' (inr (can, later)) (inl (first, there_is, wanted_is)) = absurd (not_refused seat held part byte' can first)
refused_is_one seat held (part ∷ parts) byte byte' there there' wanted wanted' (inr (can, later)) (inr (can', later')) =
    refused_is_one seat held parts byte byte' there there' wanted wanted' later later'

-- two answers to one move are one, but for want of memory
pub moves_answer_once : MovesAnswerOnce
moves_answer_once seat held parts (Ok done) (Ok done') one two some some' = refl
moves_answer_once seat held parts (Ok done) (Err NoMemory) one two some some' = absurd (some' refl)
moves_answer_once seat held parts (Ok done) (Err (Unlawful byte there wanted)) one two some some' = absurd (none_refused seat held parts byte there wanted one two)
moves_answer_once seat held parts (Err NoMemory) other one two some some' = absurd (some refl)
moves_answer_once seat held parts (Err (Unlawful byte there wanted)) (Ok done) one two some some' = absurd (none_refused seat held parts byte there wanted two one)
moves_answer_once seat held parts (Err (Unlawful byte there wanted)) (Err NoMemory) one two some some' = absurd (some' refl)
moves_answer_once seat held parts (Err (Unlawful byte there wanted)) (Err (Unlawful byte' there' wanted')) one two some some' =
    let same = refused_is_one seat held parts byte byte' there there' wanted wanted' one two in
    let byte_is = same.0 in
    let there_is = same.1 in
    let wanted_is = same.2 in
    cc
