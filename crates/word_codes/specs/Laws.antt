-- What is written reads back as it was.
use Rattle.std.specs.Prelude.{◌≡◌, ℕ, ◌^◌, ◌<◌, Option, Some}
use Rattle.pool_types.specs.Sums.{capped}
use Rattle.word_codes.specs.Marks.{mark_of, mark_word, FitsMark}
use Rattle.word_codes.specs.Kinds.{kind_of, kind_word, FitsKind}
use Rattle.word_codes.specs.Owns.{own_of, own_word, FitsOwn}
use Rattle.word_codes.specs.Publics.{public_of, public_word, FitsPublic}
use Rattle.word_codes.specs.Nexts.{next_of, next_word, FitsNext}
use Rattle.word_codes.specs.Guards.{guard_of, guard_word, FitsGuard}
use Rattle.word_codes.specs.Links.{link_of, link_word, FitsLink}
use Rattle.word_codes.specs.QueueLinks.{queue_link_of, queue_link_word, FitsQueueLink}
use Rattle.word_codes.specs.Locks.{holder_of, lock_word}
use Rattle.word_codes.specs.RegionWords.{region_of, region_word, unit_in, offset_of, FitsRegion}
use Rattle.word_codes.specs.declared.marks.Mark.{Mark}
use Rattle.word_codes.specs.declared.kinds.Kind.{Kind}
use Rattle.word_codes.specs.declared.owns.Own.{Own}
use Rattle.word_codes.specs.declared.publics.Public.{Public}
use Rattle.word_codes.specs.declared.nexts.Next.{Next}
use Rattle.word_codes.specs.declared.guards.Guard.{Guard}
use Rattle.word_codes.specs.declared.queue_links.QueueLink.{QueueLink}
use Rattle.word_codes.specs.declared.region_words.RegionWord.{RegionWord}

abbrev pub MarksReadBack : Type 0
MarksReadBack = (m : Mark) → FitsMark m → mark_of (mark_word m) ≡ m

abbrev pub KindsReadBack : Type 0
KindsReadBack = (k : Kind) → FitsKind k → kind_of (kind_word k) ≡ k

abbrev pub OwnsReadBack : Type 0
OwnsReadBack = (o : Own) → FitsOwn o → own_of (own_word o) ≡ o

abbrev pub PublicsReadBack : Type 0
PublicsReadBack = (p : Public) → FitsPublic p → public_of (public_word p) ≡ p

abbrev pub NextsReadBack : Type 0
NextsReadBack = (n : Next) → FitsNext n → next_of (next_word n) ≡ n

abbrev pub GuardsReadBack : Type 0
GuardsReadBack = (g : Guard) → FitsGuard g → guard_of (guard_word g) ≡ g

abbrev pub LinksReadBack : Type 0
LinksReadBack = (item : Option ℕ) → FitsLink item → link_of (link_word item) ≡ item

abbrev pub QueueLinksReadBack : Type 0
QueueLinksReadBack = (q : QueueLink) → FitsQueueLink q → queue_link_of (queue_link_word q) ≡ q

abbrev pub LocksReadBack : Type 0
LocksReadBack = (seat : ℕ) → seat < 256 → holder_of (lock_word seat) ≡ Some seat

abbrev pub RegionsReadBack : Type 0
RegionsReadBack = (r : RegionWord) → FitsRegion r → region_of (region_word r) ≡ r

-- the unit at an offset of a region begins at that offset
abbrev pub OffsetsReadBack : Type 0
OffsetsReadBack = (r : RegionWord) (offset unit : ℕ) → FitsRegion r → offset < 2 ^ 40 → unit_in r offset ≡ Some unit →
    offset_of r unit ≡ offset

abbrev pub CappedIs : Type 0
CappedIs = (n : ℕ) → n < 2 ^ 64 → capped n ≡ n
