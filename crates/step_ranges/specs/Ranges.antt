-- Which indices a word of each kind may hold.
use Rattle.std.specs.Prelude.{None, Option, Some, ℕ, ⊤, ◌%◌, ◌*◌, ◌+◌, ◌-◌, ◌/◌, ◌<◌, ◌≡◌, ◌≤◌}
use Rattle.pool_types.specs.Geometry.{class_count, slab_granules}
use Rattle.pool_types.specs.Limits.{most_seats, most_span}
use Rattle.pool_words.specs.Words.{WordKind, at_of, backwards, bases, bin_heads, bin_locks, cache_ages}
use Rattle.pool_words.specs.Words.{cache_cleaned, cache_gets, cache_heads, cache_items, cache_links}
use Rattle.pool_words.specs.Words.{cache_locks, cache_means, cache_thresholds, cache_used, clocks, forwards}
use Rattle.pool_words.specs.Words.{headers, kind_of_word, kinds, lefts, mailboxes, marks, nexts, office_locks}
use Rattle.pool_words.specs.Words.{orphans, owns, publics, queue_links, regions, sizes}
use Rattle.pool_words.specs.declared.actions.Action.{Action}
use Rattle.pool_words.specs.declared.words.Key.{Key}
use Rattle.pool_words.specs.declared.words.Word.{Word}
use Rattle.word_codes.specs.Guards.{guard_of}
use Rattle.word_codes.specs.Kinds.{kind_of}
use Rattle.word_codes.specs.Links.{link_of}
use Rattle.word_codes.specs.Locks.{holder_of}
use Rattle.word_codes.specs.Marks.{mark_of}
use Rattle.word_codes.specs.Nexts.{next_of}
use Rattle.word_codes.specs.Owns.{own_of}
use Rattle.word_codes.specs.Places.{granule_units}
use Rattle.word_codes.specs.Publics.{public_of}
use Rattle.word_codes.specs.QueueLinks.{queue_link_of}
use Rattle.word_codes.specs.RegionWords.{region_of}
use Rattle.word_codes.specs.declared.guards.Guard.{Guard}
use Rattle.word_codes.specs.declared.kinds.Kind.{Kind}
use Rattle.word_codes.specs.declared.marks.Mark.{Mark}
use Rattle.word_codes.specs.declared.nexts.MailKey.{MailKey}
use Rattle.word_codes.specs.declared.nexts.Next.{Next}
use Rattle.word_codes.specs.declared.owns.Own.{Own}
use Rattle.word_codes.specs.declared.publics.Public.{Public}
use Rattle.word_codes.specs.declared.queue_links.QueueLink.{QueueLink}
use Rattle.word_codes.specs.declared.region_words.RegionWord.{RegionWord}
use Rattle.word_laws.specs.Memory.{Mem, Valid}
use Rattle.pool_words.specs.declared.actions.Action.TheVariants.{Load, Store, Swap, Exchange, Add, TakeOffice}
use Rattle.pool_words.specs.declared.actions.Action.TheVariants.{GiveOffice, Nothing}
use Rattle.pool_words.specs.Words.{queues}
use Rattle.pool_types.specs.Limits.{most_regions}
use Rattle.std.specs.Prelude.{◌⊎◌}

-- The indices that a granule of a block, of a slab or of an object can have lie below this: of an odd span not the
-- last one, which can be a wall alone, so that each two of them from an even one on can be a slab.
abbrev pub granules_end : Key → ℕ
granules_end k = k.span / slab_granules * slab_granules

-- and so do the units of these granules
abbrev pub units_end : Key → ℕ
units_end k = granule_units * granules_end k

abbrev pub IsBelow : ℕ → Option ℕ → Type 0
IsBelow end None = ⊤
IsBelow end (Some index) = index < end

-- a block of so many granules lies in the pool
pub record IsBlock (k : Key) (granules first : ℕ) : Type 0 where
  pub begins : first < granules_end k
  pub ends : first + granules ≤ granules_end k

abbrev pub IsBlockIf : Key → ℕ → Option ℕ → Type 0
IsBlockIf k granules None = ⊤
IsBlockIf k granules (Some first) = IsBlock k granules first

-- a slab may lie there
pub record IsSlab (k : Key) (slab : ℕ) : Type 0 where
  pub even : slab % slab_granules ≡ 0
  pub below : slab < granules_end k

abbrev pub IsSlabIf : Key → Option ℕ → Type 0
IsSlabIf k None = ⊤
IsSlabIf k (Some slab) = IsSlab k slab

abbrev pub MarkFits : Key → Mark → Type 0
MarkFits k Mark.Unmarked = ⊤
MarkFits k (Mark.Granted grant) = grant.seat < k.seats
MarkFits k (Mark.Hand seat) = seat < k.seats
MarkFits k (Mark.Link unit) = unit < units_end k
MarkFits k Mark.End = ⊤
MarkFits k Mark.EndUnusable = ⊤

-- a large block, which has a bin of the cache
pub record IsLarge (k : Key) (granules first : ℕ) : Type 0 where
  pub block : IsBlock k granules first
  pub few : granules < k.span

abbrev pub KindFits : Key → Kind → Type 0
KindFits k Kind.Nothing = ⊤
KindFits k (Kind.Slab class) = class < class_count
KindFits k Kind.CachedSlab = ⊤
KindFits k (Kind.Large first granules) = IsLarge k granules first

abbrev pub OwnFits : Key → Own → Type 0
OwnFits k Own.Nobody = ⊤
OwnFits k Own.Orphan = ⊤
OwnFits k (Own.Kept seat) = seat < k.seats

abbrev pub PublicFits : Key → Public → Type 0
PublicFits k Public.Null = ⊤
PublicFits k Public.Unusable = ⊤
PublicFits k (Public.Filled unit) = unit < units_end k

-- the mailbox is one of the pool's
pub record IsMailbox (k : Key) (key : MailKey) : Type 0 where
  pub seat : key.seat < k.seats
  pub class : key.class < class_count

abbrev pub NextFits : Key → Next → Type 0
NextFits k (Next.Mailbox key) = IsMailbox k key
NextFits k (Next.Link slab) = IsSlabIf k slab

-- a free block that begins at this index, and one that ends there
abbrev pub SizeFits : Key → ℕ → Guard → Type 0
SizeFits k first Guard.Used = ⊤
SizeFits k first Guard.Coalescing = ⊤
SizeFits k first Guard.Wall = ⊤
SizeFits k first (Guard.Free granules) = IsBlock k granules first

pub record EndsBlock (k : Key) (granules end : ℕ) : Type 0 where
  pub long : granules ≤ end
  pub block : IsBlock k granules (end - granules)

abbrev pub LeftFits : Key → ℕ → Guard → Type 0
LeftFits k end Guard.Used = ⊤
LeftFits k end Guard.Coalescing = ⊤
LeftFits k end Guard.Wall = ⊤
LeftFits k end (Guard.Free granules) = EndsBlock k granules end

-- of a block in the queue, the one behind it, and its own length
pub record QueueLinkFits (k : Key) (first : ℕ) (link : QueueLink) : Type 0 where
  pub next : IsBelow (granules_end k) link.next
  pub ends : first < granules_end k → first + link.granules ≤ granules_end k

-- a region, and its wall behind it
abbrev pub RegionFits : Key → RegionWord → Type 0
RegionFits k region = region.first + region.granules < k.span

-- A word of this kind at this index may hold this value. A head of the cache names a block as long as its bin's, and a
-- link of the cache only some block. A header holds no index but an object's number, of which any is in the slab.
abbrev pub WordFits : Key → WordKind → ℕ → ℕ → Type 0
WordFits k marks index word = MarkFits k (mark_of word)
WordFits k kinds index word = KindFits k (kind_of word)
WordFits k owns index word = OwnFits k (own_of word)
WordFits k publics index word = PublicFits k (public_of word)
WordFits k nexts index word = NextFits k (next_of word)
WordFits k headers index word = ⊤
WordFits k sizes index word = SizeFits k index (guard_of word)
WordFits k lefts index word = LeftFits k index (guard_of word)
WordFits k bin_locks index word = IsBelow k.seats (holder_of word)
WordFits k bin_heads index word = IsBelow (granules_end k) (link_of word)
WordFits k forwards index word = IsBelow (granules_end k) (link_of word)
WordFits k backwards index word = IsBelow (granules_end k) (link_of word)
WordFits k queues index word = IsBelow (granules_end k) (link_of word)
WordFits k queue_links index word = QueueLinkFits k index (queue_link_of word)
WordFits k mailboxes index word = IsSlabIf k (link_of word)
WordFits k orphans index word = IsSlabIf k (link_of word)
WordFits k cache_locks index word = IsBelow k.seats (holder_of word)
WordFits k cache_heads index word = IsBlockIf k index (link_of word)
WordFits k cache_items index word = ⊤
WordFits k cache_used index word = ⊤
WordFits k cache_means index word = ⊤
WordFits k cache_thresholds index word = ⊤
WordFits k cache_gets index word = ⊤
WordFits k cache_cleaned index word = ⊤
WordFits k cache_links index word = IsBelow (granules_end k) (link_of word)
WordFits k cache_ages index word = ⊤
WordFits k clocks index word = ⊤
WordFits k office_locks index word = IsBelow k.seats (holder_of word)
WordFits k regions index word = RegionFits k (region_of word)
WordFits k bases index word = ⊤

-- all words
abbrev pub Ranged : Key → Mem → Type 0
Ranged k m = (kind : WordKind) (index : ℕ) → WordFits k kind index (m kind index)

-- this word may hold this value
abbrev pub ValueFits : Key → Word → ℕ → Type 0
ValueFits k w value = WordFits k (kind_of_word w) (at_of w) value

-- the action's word is one of the pool's
abbrev pub Names : Key → Action → Type 0
Names k (Load w) = Valid k w
Names k (Store w value) = Valid k w
Names k (Swap w value) = Valid k w
Names k (Exchange w from to) = Valid k w
Names k (Add w value) = Valid k w
Names k (TakeOffice job) = ⊤
Names k GiveOffice = ⊤
Names k Nothing = ⊤

-- or it empties the slot behind the last one, which is none
abbrev pub NamesOrNone : Key → Action → Type 0
NamesOrNone k action = Names k action ⊎ (action ≡ Store (Word.Region most_regions) 0)

-- what the action may store is in the word's range
abbrev pub Stores : Key → Action → Type 0
Stores k (Load w) = ⊤
Stores k (Store w value) = ValueFits k w value
Stores k (Swap w value) = ValueFits k w value
Stores k (Exchange w from to) = ValueFits k w to
Stores k (Add w value) = (sum : ℕ) → ValueFits k w sum
Stores k (TakeOffice job) = ⊤
Stores k GiveOffice = ⊤
Stores k Nothing = ⊤

pub record ActionFits (k : Key) (action : Action) : Type 0 where
  pub names : Names k action
  pub stores : Stores k action

-- what the action finds is in the word's range
abbrev pub Finds : Key → Action → ℕ → Type 0
Finds k (Load w) found = ValueFits k w found
Finds k (Store w value) found = ⊤
Finds k (Swap w value) found = ValueFits k w found
Finds k (Exchange w from to) found = ValueFits k w found
Finds k (Add w value) found = ⊤
Finds k (TakeOffice job) found = ⊤
Finds k GiveOffice found = ⊤
Finds k Nothing found = ⊤

-- a pool of this key can be made
pub record IsKey (k : Key) : Type 0 where
  pub seated : 1 ≤ k.seats
  pub seats : k.seats ≤ most_seats
  pub spans : slab_granules ≤ k.span
  pub span : k.span ≤ most_span
