-- A link that a seat loads of a block in a bin of the cache leads to the block behind it there, which is as long.
use Rattle.std.proofs.Common.{◌≡◌, ◌∙◌, ℕ, ◌+◌, ◌<◌, List, [], ◌∷◌, ◌++◌, Some, None, true, false, refl}
use Rattle.std.proofs.Common.{sym, subst, arith}
use Rattle.pool_words.specs.declared.words.Key.{Key}
use Rattle.pool_words.specs.Words.{cache_ages, cache_links}
use Rattle.word_codes.specs.Links.{link_of, link_word}
use Rattle.word_codes.proofs.CallerLemmas.{links_read_back}
use Rattle.word_laws.specs.Memory.{Mem, found}
use Rattle.chain_laws.specs.Chains.{tally}
use Rattle.chain_laws.proofs.CallerLemmas.{tally-here, tally-more}
use Rattle.guard_laws.specs.Blocks.{Use}
use Rattle.large_cache.specs.declared.get.GetAt.{GetAt}
use Rattle.large_cache.specs.declared.get.HitAt.{HitAt}
use Rattle.large_cache.specs.declared.keep.KeepAt.{KeepAt}
use Rattle.large_cache.specs.declared.sweep.SweepAt.{SweepAt}
use Rattle.cache_laws.specs.Bins.{Bin, Item, Lists, Says, blocks_of, word_of}
use Rattle.cache_laws.specs.Gets.{HitNoted}
use Rattle.cache_laws.specs.Sweeps.{judged}
use Rattle.cache_laws.specs.Good.{Holding, Task, holds}
use Rattle.step_local.specs.declared.frames.At.{At}
use Rattle.step_local.specs.declared.frames.Local.{Local}
use Rattle.step_local.specs.Course.{course_at}
use Rattle.step_local.specs.Large.{granules_of_served}
use Rattle.cache_tasks.specs.Cache.{cache_task_at}
use Rattle.call_laws.specs.Calls.{is_reset_at}
use Rattle.pool_laws.specs.Wholes.{Whole, WholeGood, regions_of}
use Rattle.step_ranges.specs.Locals.{LeadsAt}
use Rattle.step_ranges.specs.Ranges.{IsBlock, IsBlockIf}
use Rattle.whole_runs.specs.States.{AreShort}
use Rattle.region_laws.proofs.CallerLemmas.{blocks_lie_in_one_region}

-- of items in a list the words say which is behind each
listed : (links ages : ℕ → ℕ) (front : List Item) (item : Item) (back : List Item)
    → Lists links ages (front ++ (item ∷ back)) → links item.block ≡ word_of back
listed links ages [] item back lists = lists.0
listed links ages (x ∷ xs) item back lists = listed links ages xs item back lists.2

-- what is behind an item is in the list
among : (front : List Item) (item : Item) (back : List Item) (x : ℕ) → 0 < tally x (blocks_of back)
    → 0 < tally x (blocks_of (front ++ (item ∷ back)))
among [] item back x some = let more = tally-more x item.block (blocks_of back) in omega arith
among (y ∷ ys) item back x some =
    let rest = among ys item back x some in
    let more = tally-more x y.block (blocks_of (ys ++ (item ∷ back))) in omega arith

module _ (k : Key) (w : Whole) (good : WholeGood k w) (short : AreShort k w.office) where
  -- a block of a bin lies in the pool, before the last region's wall
  binned : (b x : ℕ) → 0 < tally x (blocks_of (w.shelves b).items) → IsBlock k b x
  binned b x some =
      let at = (good.shelf.shelves.binned b x some).1 in
      let r = blocks_lie_in_one_region k (regions_of w) x b Use.Elsewhere good.regions at in
      let low = short r.slot r.one (good.regions.office.records_fit.known r.slot r.one r.live) in
      let from = r.from in
      let to = r.to in
      let long = (good.regions.pool.guards.parts.whole x x b Use.Elsewhere at).below in
      record { begins = omega arith; ends = omega arith }

  behind : (b : ℕ) (back : List Item) → ((x : ℕ) → 0 < tally x (blocks_of back)
      → 0 < tally x (blocks_of (w.shelves b).items)) → IsBlockIf k b (link_of (word_of back))
  unfolding link_word
  behind b [] of = subst (IsBlockIf k b) (sym (links_read_back None tt)) tt
  behind b (y ∷ ys) of =
      let is = binned b y.block (of y.block (let here = tally-here y.block (blocks_of ys) in omega arith)) in
      let span = good.shelf.cache.span in
      let low = is.begins in
      subst (IsBlockIf k b) (sym (links_read_back (Some y.block) (omega arith))) is

  -- the block behind an item of a bin
  link_leads : (b : ℕ) (m : Mem) (bin : Bin) (front : List Item) (item : Item) (back : List Item) → Says m b bin
      → bin.items ≡ front ++ (item ∷ back) → bin.items ≡ (w.shelves b).items
      → IsBlockIf k b (link_of (m cache_links item.block))
  link_leads b m bin front item back says is same =
      let leads : m cache_links item.block ≡ word_of back
      = listed (m cache_links) (m cache_ages) front item back
      (subst (Lists (m cache_links) (m cache_ages)) is says.listed) in
      subst (λ v. IsBlockIf k b (link_of v)) (sym leads) (behind b back (λ x some.
      subst (λ xs. 0 < tally x (blocks_of xs)) (sym is ∙ same) (among front item back x some)))

  module _ (l : Local) (seat : ℕ) where
    -- what the seat has noted at its bin
    held : (task : Task) → w.jobs seat ≡ task → holds task ≡ true → Holding w.shelves w.pool.mem task
    held task is locked = subst (Holding w.shelves w.pool.mem) is
        (good.shelf.cache.held seat (subst (λ t. holds t ≡ true) (sym is) locked))

    hit : (b items block : ℕ) (bin : Bin) (there : List Item) → bin.items ≡ there → bin.items ≡ (w.shelves b).items
        → Says w.pool.mem b bin → HitNoted bin there (HitAt.Link items block)
        → IsBlockIf k b (link_of (w.pool.mem cache_links block))
    hit b items block bin [] is same says noted = absurd noted
    hit b items block bin (x ∷ xs) is same says noted =
        subst (λ y. IsBlockIf k b (link_of (w.pool.mem cache_links y))) (sym noted.1)
        (link_leads b w.pool.mem bin [] x xs says is same)

    pub leads_at : (at : At) → is_reset_at at ≡ false → w.jobs seat ≡ cache_task_at l at
        → LeadsAt k l at (found w.pool.mem (course_at l at))
    leads_at (At.Get at) none is = get at is
      where
        get : (at : GetAt) → w.jobs seat ≡ cache_task_at l (At.Get at)
            → LeadsAt k l (At.Get at) (found w.pool.mem (course_at l (At.Get at)))
        get (GetAt.Hit (HitAt.Link items block)) is =
            let b = granules_of_served l.call.served in
            let h = held (cache_task_at l (At.Get (GetAt.Hit (HitAt.Link items block)))) is refl in
            hit b items block (w.shelves b) (w.shelves b).items refl refl h.says h.noted
        get (GetAt.Hit _) is = tt
        get _ is = tt
    leads_at (At.Keep at) none is = keep at is
      where
        keep : (at : KeepAt) → w.jobs seat ≡ cache_task_at l (At.Keep at)
            → LeadsAt k l (At.Keep at) (found w.pool.mem (course_at l (At.Keep at)))
        keep (KeepAt.Walk tail) is =
            let b = l.call.block.granules in
            let h = held (cache_task_at l (At.Keep (KeepAt.Walk tail))) is refl in
            let fits = h.noted.1 in
            subst (λ y. IsBlockIf k b (link_of (w.pool.mem cache_links y))) (sym fits.block')
            (link_leads b w.pool.mem (w.shelves b) fits.front fits.item h.noted.0 h.says fits.is refl)
        keep _ is = tt
    leads_at (At.Sweep at) none is = sweep at is
      where
        sweep : (at : SweepAt) → w.jobs seat ≡ cache_task_at l (At.Sweep at)
            → LeadsAt k l (At.Sweep at) (found w.pool.mem (course_at l (At.Sweep at)))
        sweep (SweepAt.Link walk) is =
            let b = l.sweep.granules in
            let h = held (cache_task_at l (At.Sweep (SweepAt.Link walk))) is refl in
            let fits = h.noted in
            subst (λ y. IsBlockIf k b (link_of (w.pool.mem cache_links y))) (sym fits.here)
            (link_leads b w.pool.mem (judged l.sweep.cleanup l.sweep.time (w.shelves b)) fits.before fits.item fits.rest
            h.says fits.is refl)
        sweep _ is = tt
    leads_at (At.Reset at) none is = absurd (cc)
    leads_at _ none is = tt
