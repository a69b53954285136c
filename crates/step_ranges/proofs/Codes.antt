-- What is stored is read back in its range.
use Rattle.std.proofs.Common.{None, Option, Some, ap, arith, false, refl, subst, sym, ℕ, ◌%◌, ◌-◌, ◌<◌, ◌^◌}
use Rattle.std.proofs.Common.{◌∙◌, ◌≡◌}
use Rattle.pool_types.specs.Limits.{most_seats}
use Rattle.pool_words.specs.Words.{WordKind, backwards, bin_heads, bin_locks, cache_heads, cache_links}
use Rattle.pool_words.specs.Words.{cache_locks, forwards, kinds, lefts, marks, nexts, office_locks, owns}
use Rattle.pool_words.specs.Words.{publics, queue_links, sizes}
use Rattle.pool_words.specs.declared.words.Key.{Key}
use Rattle.pool_words.specs.declared.words.Word.{Word}
use Rattle.word_codes.specs.Guards.{guard_of, guard_word}
use Rattle.word_codes.specs.Kinds.{kind_of, kind_word}
use Rattle.word_codes.specs.Links.{link_of, link_word}
use Rattle.word_codes.specs.Locks.{holder_of, lock_word}
use Rattle.word_codes.specs.Marks.{mark_of, mark_word, private_link, public_link}
use Rattle.word_codes.specs.Nexts.{next_of, next_word}
use Rattle.word_codes.specs.Owns.{own_of, own_word}
use Rattle.word_codes.specs.Publics.{public_of, public_word}
use Rattle.word_codes.specs.QueueLinks.{FitsQueueNext, queue_link_of, queue_link_word}
use Rattle.word_codes.specs.RegionWords.{FitsRegion, region_of, region_word}
use Rattle.word_codes.specs.declared.guards.Guard.{Guard}
use Rattle.word_codes.specs.declared.kinds.Kind.{Kind}
use Rattle.word_codes.specs.declared.marks.Mark.{Mark}
use Rattle.word_codes.specs.declared.nexts.MailKey.{MailKey}
use Rattle.word_codes.specs.declared.nexts.Next.{Next}
use Rattle.word_codes.specs.declared.owns.Own.{Own}
use Rattle.word_codes.specs.declared.publics.Public.{Public}
use Rattle.word_codes.specs.declared.region_words.RegionWord.{RegionWord}
use Rattle.backend_bins.specs.Blocks.{fits}
use Rattle.word_laws.specs.Memory.{Valid}
use Rattle.step_ranges.proofs.Numbers.{block_few, end_few}
use Rattle.step_ranges.specs.Ranges.{ActionFits, EndsBlock, IsBelow, IsBlock, IsBlockIf, IsKey, IsMailbox}
use Rattle.step_ranges.specs.Ranges.{IsSlab, IsSlabIf, KindFits, LeftFits, MarkFits, NextFits, OwnFits}
use Rattle.step_ranges.specs.Ranges.{PublicFits, QueueLinkFits, RegionFits, SizeFits, ValueFits, WordFits}
use Rattle.step_ranges.specs.Ranges.{granules_end, units_end}
use Rattle.word_codes.proofs.CallerLemmas.{guards_read_back, kinds_read_back, links_read_back, locks_read_back}
use Rattle.word_codes.proofs.CallerLemmas.{marks_read_back, nexts_read_back, owns_read_back, publics_read_back}
use Rattle.word_codes.proofs.CallerLemmas.{queue_links_read_back, regions_read_back}
use Rattle.pool_words.specs.declared.actions.Action.TheVariants.{Load, Store, Swap, Exchange}
use Rattle.pool_words.specs.Words.{queues, mailboxes, orphans, regions}

no_link : link_of 0 ≡ None
unfolding link_of
no_link = refl

no_holder : holder_of 0 ≡ None
unfolding holder_of
no_holder = refl

no_mark : mark_of 0 ≡ Mark.Unmarked
unfolding mark_of
no_mark = refl

no_kind : kind_of 0 ≡ Kind.Nothing
unfolding kind_of
no_kind = refl

nobody : own_of 0 ≡ Own.Nobody
unfolding own_of
nobody = refl

no_public : public_of 0 ≡ Public.Null
unfolding public_of
no_public = refl

no_next : next_of 0 ≡ Next.Link None
unfolding next_of link_of
no_next = refl

no_guard : guard_of 0 ≡ Guard.Used
unfolding guard_of
no_guard = refl

no_queue_link : queue_link_of 0 ≡ record { next = None; granules = 0 }
unfolding queue_link_of link_of
no_queue_link = refl

no_region : region_of 0 ≡ record { live = false; number = 0; first = 0; granules = 0; waste = 0 }
unfolding region_of
no_region = refl

same_grant : (seat number : ℕ) → mark_word (Mark.Granted (record { seat = seat; number = number }))
    ≡ mark_word (Mark.Granted (record { seat = seat; number = number % 2 ^ 55 }))
unfolding mark_word
same_grant seat number = omega arith

-- the number of a grant counts for nothing
granted_seat : (seat number : ℕ) → seat < most_seats
    → mark_of (mark_word (Mark.Granted (record { seat = seat; number = number })))
    ≡ Mark.Granted (record { seat = seat; number = number % 2 ^ 55 })
granted_seat seat number few =
    ap mark_of (same_grant seat number)
    ∙ marks_read_back (Mark.Granted (record { seat = seat; number = number % 2 ^ 55 })) (few, omega arith)

-- nor does what does not fit of a region's number and its waste
cut_region : RegionWord → RegionWord
cut_region region = record region { number = region.number % 2 ^ 22; waste = region.waste % 2 ^ 13 }

cut_same : (region : RegionWord) → region_word region ≡ region_word (cut_region region)
unfolding region_word cut_region
cut_same region = omega arith

pub loads : {k : Key} {w : Word} → Valid k w → ActionFits k (Load w)
loads valid = record { names = valid; stores = tt }

pub stores_in : {k : Key} {w : Word} {value : ℕ} → Valid k w → ValueFits k w value → ActionFits k (Store w value)
stores_in valid fits = record { names = valid; stores = fits }

pub swaps : {k : Key} {w : Word} {value : ℕ} → Valid k w → ValueFits k w value → ActionFits k (Swap w value)
swaps valid fits = record { names = valid; stores = fits }

pub exchanges : {k : Key} {w : Word} {from to : ℕ} → Valid k w → ValueFits k w to → ActionFits k (Exchange w from to)
exchanges valid fits = record { names = valid; stores = fits }

module _ (k : Key) (key : IsKey k) where
  pub link_back : (index : ℕ) → index < granules_end k → link_of (link_word (Some index)) ≡ Some index
  link_back index below = links_read_back (Some index) (let few = end_few k key in omega arith)

  pub link_fits : (index : ℕ) → index < granules_end k → IsBelow (granules_end k) (link_of (link_word (Some index)))
  link_fits index below = subst (IsBelow (granules_end k)) (sym (link_back index below)) below

  pub end_fits : IsBelow (granules_end k) (link_of 0)
  end_fits = subst (IsBelow (granules_end k)) (sym no_link) tt

  pub block_fits : (granules first : ℕ) → IsBlock k granules first
      → IsBlockIf k granules (link_of (link_word (Some first)))
  block_fits granules first b = subst (IsBlockIf k granules) (sym (link_back first b.begins)) b

  pub no_block_fits : (granules : ℕ) → IsBlockIf k granules (link_of 0)
  no_block_fits granules = subst (IsBlockIf k granules) (sym no_link) tt

  pub slab_fits : (slab : ℕ) → IsSlab k slab → IsSlabIf k (link_of (link_word (Some slab)))
  slab_fits slab is = subst (IsSlabIf k) (sym (link_back slab is.below)) is

  pub no_slab_fits : IsSlabIf k (link_of 0)
  no_slab_fits = subst (IsSlabIf k) (sym no_link) tt

  pub lock_fits : (seat : ℕ) → seat < k.seats → IsBelow k.seats (holder_of (lock_word seat))
  lock_fits seat below = subst (IsBelow k.seats)
      (sym (locks_read_back seat (omega (arith, key.seats)))) below

  pub free_fits : IsBelow k.seats (holder_of 0)
  free_fits = subst (IsBelow k.seats) (sym no_holder) tt

  pub hand_fits : (seat : ℕ) → seat < k.seats → MarkFits k (mark_of (mark_word (Mark.Hand seat)))
  hand_fits seat below = subst (MarkFits k)
      (sym (marks_read_back (Mark.Hand seat) (omega (arith, key.seats)))) below

  pub grant_fits : (seat number : ℕ) → seat < k.seats
      → MarkFits k (mark_of (mark_word (Mark.Granted (record { seat = seat; number = number }))))
  grant_fits seat number below = subst (MarkFits k)
      (sym (granted_seat seat number (omega (arith, key.seats)))) below

  unit_fits : (unit : ℕ) → unit < units_end k → MarkFits k (mark_of (mark_word (Mark.Link unit)))
  unit_fits unit below = subst (MarkFits k)
      (sym (marks_read_back (Mark.Link unit) (let few = end_few k key in omega arith))) below

  pub private_fits : (head : Option ℕ) → IsBelow (units_end k) head → MarkFits k (mark_of (private_link head))
  private_fits None below = subst (MarkFits k) (sym (marks_read_back Mark.End tt)) tt
  private_fits (Some unit) below = unit_fits unit below

  pub public_link_fits : (public : Public) → PublicFits k public → MarkFits k (mark_of (public_link public))
  public_link_fits Public.Null fits = subst (MarkFits k) (sym (marks_read_back Mark.End tt)) tt
  public_link_fits Public.Unusable fits = subst (MarkFits k) (sym (marks_read_back Mark.EndUnusable tt)) tt
  public_link_fits (Public.Filled unit) fits = unit_fits unit fits

  pub public_fits : (public : Public) → PublicFits k public → PublicFits k (public_of (public_word public))
  public_fits Public.Null fits = subst (PublicFits k) (sym (publics_read_back Public.Null tt)) fits
  public_fits Public.Unusable fits = subst (PublicFits k) (sym (publics_read_back Public.Unusable tt)) fits
  public_fits (Public.Filled unit) fits = subst (PublicFits k)
      (sym (publics_read_back (Public.Filled unit) (let few = end_few k key in omega arith))) fits

  pub kind_fits : (kind : Kind) → KindFits k kind → KindFits k (kind_of (kind_word kind))
  kind_fits Kind.Nothing fits = subst (KindFits k) (sym (kinds_read_back Kind.Nothing tt)) fits
  kind_fits Kind.CachedSlab fits = subst (KindFits k) (sym (kinds_read_back Kind.CachedSlab tt)) fits
  kind_fits (Kind.Slab class) fits = subst (KindFits k)
      (sym (kinds_read_back (Kind.Slab class) (omega (arith, fits)))) fits
  kind_fits (Kind.Large first granules) fits = subst (KindFits k)
      (sym (kinds_read_back (Kind.Large first granules)
      (let few = block_few k key granules first fits.block in (omega arith, omega arith)))) fits

  pub own_fits : (own : Own) → OwnFits k own → OwnFits k (own_of (own_word own))
  own_fits Own.Nobody fits = subst (OwnFits k) (sym (owns_read_back Own.Nobody tt)) fits
  own_fits Own.Orphan fits = subst (OwnFits k) (sym (owns_read_back Own.Orphan tt)) fits
  own_fits (Own.Kept seat) fits = subst (OwnFits k)
      (sym (owns_read_back (Own.Kept seat) (omega (arith, fits, key.seats)))) fits

  pub mailbox_fits : (box : MailKey) → IsMailbox k box → NextFits k (next_of (next_word (Next.Mailbox box)))
  mailbox_fits box is = subst (NextFits k)
      (sym (nexts_read_back (Next.Mailbox box)
      (omega (arith, is.seat, key.seats), omega (arith, is.class)))) is

  pub next_fits : (slab : Option ℕ) → IsSlabIf k slab → NextFits k (next_of (next_word (Next.Link slab)))
  next_fits None fits = subst (NextFits k) (sym (nexts_read_back (Next.Link None) tt)) fits
  next_fits (Some slab) fits = subst (NextFits k)
      (sym (nexts_read_back (Next.Link (Some slab))
      (let few = end_few k key in let below = fits.below in omega arith))) fits

  free_back : (granules : ℕ) → granules < 2 ^ 32 → guard_of (guard_word (Guard.Free granules)) ≡ Guard.Free granules
  free_back granules few = guards_read_back (Guard.Free granules) (omega arith)

  pub free_size : (granules first : ℕ) → IsBlock k granules first
      → SizeFits k first (guard_of (guard_word (Guard.Free granules)))
  free_size granules first b = subst (SizeFits k first)
      (sym (free_back granules (let few = block_few k key granules first b in omega arith))) b

  -- and a guard that says so is one of a block
  pub size_free : (granules first : ℕ) → granules < 2 ^ 32
      → SizeFits k first (guard_of (guard_word (Guard.Free granules))) → IsBlock k granules first
  size_free granules first few fits = subst (SizeFits k first) (free_back granules few) fits

  pub free_left : (granules end : ℕ) → EndsBlock k granules end
      → LeftFits k end (guard_of (guard_word (Guard.Free granules)))
  free_left granules end e = subst (LeftFits k end)
      (sym (free_back granules (let few = block_few k key granules (end - granules) e.block in omega arith))) e

  pub used_size : (first : ℕ) → SizeFits k first (guard_of (guard_word Guard.Used))
  used_size first = subst (SizeFits k first) (sym (guards_read_back Guard.Used tt)) tt

  pub used_left : (end : ℕ) → LeftFits k end (guard_of (guard_word Guard.Used))
  used_left end = subst (LeftFits k end) (sym (guards_read_back Guard.Used tt)) tt

  pub joining_size : (first : ℕ) → SizeFits k first (guard_of (guard_word Guard.Coalescing))
  joining_size first = subst (SizeFits k first) (sym (guards_read_back Guard.Coalescing tt)) tt

  pub joining_left : (end : ℕ) → LeftFits k end (guard_of (guard_word Guard.Coalescing))
  joining_left end = subst (LeftFits k end) (sym (guards_read_back Guard.Coalescing tt)) tt

  pub wall_size : (first : ℕ) → SizeFits k first (guard_of (guard_word Guard.Wall))
  wall_size first = subst (SizeFits k first) (sym (guards_read_back Guard.Wall tt)) tt

  pub wall_left : (end : ℕ) → LeftFits k end (guard_of (guard_word Guard.Wall))
  wall_left end = subst (LeftFits k end) (sym (guards_read_back Guard.Wall tt)) tt

  queue_next_few : (next : Option ℕ) → IsBelow (granules_end k) next → FitsQueueNext next
  queue_next_few None below = tt
  queue_next_few (Some block) below = let few = end_few k key in omega (arith, below)

  pub queue_link_fits : (next : Option ℕ) (granules first : ℕ) → IsBelow (granules_end k) next
      → IsBlock k granules first
      → QueueLinkFits k first (queue_link_of (queue_link_word (record { next = next; granules = granules })))
  queue_link_fits next granules first below b = subst (QueueLinkFits k first)
      (sym (queue_links_read_back (record { next = next; granules = granules })
      (queue_next_few next below, let few = block_few k key granules first b in omega arith)))
      (record { next = below; ends = λ _. b.ends })

  -- a region's word of these fields, whatever its number and its waste are
  cut_fits : (region : RegionWord) → RegionFits k region → FitsRegion (cut_region region)
  unfolding cut_region
  cut_fits region fits = record {
    number = omega arith;
    first = omega (arith, fits, key.span);
    granules = omega (arith, fits, key.span);
    waste = omega arith;
  }

  cut_back : (region : RegionWord) → RegionFits k region → RegionFits k (cut_region region)
  unfolding cut_region
  cut_back region fits = fits

  pub region_fits : (region : RegionWord) → RegionFits k region → RegionFits k (region_of (region_word region))
  region_fits region fits = subst (RegionFits k)
      (sym (ap region_of (cut_same region) ∙ regions_read_back (cut_region region) (cut_fits region fits)))
      (cut_back region fits)

  pub none_fits : RegionFits k (region_of 0)
  none_fits = subst (RegionFits k) (sym no_region) (omega (arith, key.spans))

  -- a new word is in its range
  pub zero_fits : (kind : WordKind) (index : ℕ) → WordFits k kind index 0
  zero_fits marks index = subst (MarkFits k) (sym no_mark) tt
  zero_fits kinds index = subst (KindFits k) (sym no_kind) tt
  zero_fits owns index = subst (OwnFits k) (sym nobody) tt
  zero_fits publics index = subst (PublicFits k) (sym no_public) tt
  zero_fits nexts index = subst (NextFits k) (sym no_next) tt
  zero_fits sizes index = subst (SizeFits k index) (sym no_guard) tt
  zero_fits lefts index = subst (LeftFits k index) (sym no_guard) tt
  zero_fits bin_locks index = free_fits
  zero_fits bin_heads index = end_fits
  zero_fits forwards index = end_fits
  zero_fits backwards index = end_fits
  zero_fits queues index = end_fits
  zero_fits queue_links index = subst (QueueLinkFits k index) (sym no_queue_link)
      (record { next = tt; ends = λ below. omega arith })
  zero_fits mailboxes index = no_slab_fits
  zero_fits orphans index = no_slab_fits
  zero_fits cache_locks index = free_fits
  zero_fits cache_heads index = no_block_fits index
  zero_fits cache_links index = end_fits
  zero_fits office_locks index = free_fits
  zero_fits regions index = none_fits
  zero_fits _ index = tt
