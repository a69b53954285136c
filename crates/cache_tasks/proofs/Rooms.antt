-- While the cache is good, a sweep has room for each block of its bin, and has released those that go.
use Rattle.std.proofs.Common.{◌≡◌, ◌<◌, ◌++◌, ◌∷◌, [], ℕ, suc, refl, ap, sym, subst, ◌∙◌, arith, length}
use Rattle.std.proofs.lemmas.List.{length-append}
use Rattle.std.specs.Prelude.{List}
use Rattle.large_cache.specs.declared.sweep.Cleanup.{Cleanup}
use Rattle.large_cache.specs.declared.sweep.SweepAt.{SweepAt}
use Rattle.large_cache.specs.declared.sweep.Walk.{Walk}
use Rattle.pool_words.specs.declared.words.Key.{Key}
use Rattle.cache_laws.specs.Bins.{Bin, Item, blocks_of}
use Rattle.cache_laws.specs.Good.{BinFits, Noted, bin_of, holds}
use Rattle.cache_laws.specs.Sweeps.{AgeNoted}
use Rattle.step_local.specs.declared.frames.At.{At}
use Rattle.step_local.specs.Frames.{most_released}
use Rattle.cache_tasks.specs.Cache.{cache_task_at}
use Rattle.cache_tasks.specs.Laws.{GoodSweepsHaveRoom, ReleasedAreThoseThatGo}
use Rattle.cache_tasks.specs.Released.{FitsAt, HasRoomAt}

length_blocks : (items : List Item) → length (blocks_of items) ≡ length items
length_blocks [] = refl
length_blocks (x ∷ xs) = ap (λ n. suc n) (length_blocks xs)

-- the block that is judged is in the bin beside those that go
few_go : (k : Key) (cleanup : Cleanup) (time : ℕ) (bin : Bin) (gone : List ℕ) (walk : Walk) → BinFits k bin
    → AgeNoted cleanup time bin gone walk → length gone < most_released
few_go k cleanup time bin gone walk fits noted =
    let all = ap length noted.fits.is in
    let parts = length-append noted.fits.front (noted.fits.stale' ++ (noted.item ∷ noted.rest)) in
    let back = length-append noted.fits.stale' (noted.item ∷ noted.rest) in
    let many = ap length noted.fits.gone' ∙ length_blocks noted.fits.stale' in
    let few = fits.few in
    omega arith

pub good_sweeps_have_room : GoodSweepsHaveRoom
good_sweeps_have_room k g m tasks seat l good is fits = by l.at is fits.fits
  where
    judges : (walk : Walk) → tasks seat ≡ cache_task_at l (At.Sweep (SweepAt.Age walk))
        → length l.released.items < most_released
    judges walk at = few_go k l.sweep.cleanup l.sweep.time (g l.sweep.granules) l.released.items walk
        (good.bins l.sweep.granules)
        (subst (λ task. Noted task (g (bin_of task))) at (good.held seat (ap holds at)).noted)

    by : (at : At) → tasks seat ≡ cache_task_at l at → FitsAt l at → HasRoomAt l at
    by (At.Sweep SweepAt.Lock) at none = none
    by (At.Sweep (SweepAt.Age walk)) at some =
        subst (λ room. length l.released.items < room) (sym fits.room) (judges walk at)
    by (At.Sweep _) at some = tt
    by _ at some = tt

pub released_are_those_that_go : ReleasedAreThoseThatGo
released_are_those_that_go k g m tasks seat l good is at =
    let here : tasks seat ≡ cache_task_at l (At.Sweep SweepAt.Unlock) = is ∙ ap (cache_task_at l) at in
    subst (λ task. Noted task (g (bin_of task))) here (good.held seat (ap holds here)).noted
