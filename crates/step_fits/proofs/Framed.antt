-- What a turn leaves, and frames of which one part is another.
use Rattle.std.proofs.Common.{◌≡◌, ℕ, ◌<◌, ◌≤◌, ◌+◌, Bool, true, false, cond, [], length, refl}
use Rattle.pool_types.specs.Geometry.{class_count}
use Rattle.pool_types.specs.declared.values.Answer.{Answer}
use Rattle.pool_types.specs.declared.values.Request.{Request}
use Rattle.pool_types.specs.declared.values.Turn.{Turn}
use Rattle.pool_words.specs.declared.words.Key.{Key}
use Rattle.heap_slabs.specs.declared.heap.Heap.{Heap}
use Rattle.heap_slabs.specs.Cached.{high_mark}
use Rattle.heap_slabs.specs.Heaps.{most_slabs}
use Rattle.heap_slabs.specs.Rolls.{Rolled}
use Rattle.heap_slabs.specs.Slabs.{Kept}
use Rattle.slab_laws.specs.Heaps.{HeapFits}
use Rattle.step_local.specs.declared.frames.Local.{Local}
use Rattle.step_local.specs.declared.frames.Object.{Object}
use Rattle.step_local.specs.declared.frames.Served.{Served}
use Rattle.step_local.specs.declared.frames.Stage.{Stage}
use Rattle.step_local.specs.Answers.{answered, ended, ended_as}
use Rattle.step_local.specs.Frames.{last_cache_bin, most_released}
use Rattle.step_fits.specs.Frames.{CallFits, Frames, FramesFit, HasRoom, Rooms, plain_rooms}
use Rattle.step_fits.specs.Frames.{rooms_at}
use Rattle.step_fits.specs.Positions.{AtFits}

-- what a turn leaves fits
abbrev pub Fits : Key → ℕ → Bool → Local × Turn → Type 0
Fits k seat sure turn = Frames k seat (rooms_at turn.0.at) turn.0 × AtFits sure turn.0 turn.0.at

pub either : (sure : Bool) {k : Key} {seat : ℕ} (b : Bool) (x y : Local × Turn) → (b ≡ true → Fits k seat sure x)
    → (b ≡ false → Fits k seat sure y) → Fits k seat sure (cond b x y)
either sure true x y one other = one refl
either sure false x y one other = other refl

module _ {k known : Key} {seat own : ℕ} {rooms : Rooms} {h : Heap} {gone : Rolled ℕ} {request : Request} {old : Object}
    {served : Served} {stage : Stage} {fetched bin : ℕ}
    (fits : FramesFit k seat rooms known own h gone request old served stage fetched bin) where
  pub other_rooms : (next : Rooms) → length h.cached.items ≤ next.cached
      → (next.aside ≡ false → h.spares.items ≡ [])
      → FramesFit k seat next known own h gone request old served stage fetched bin
  other_rooms next is none = record {
    key = fits.key;
    seat' = fits.seat';
    slabs = fits.slabs;
    cached = fits.cached;
    few = is;
    spares = fits.spares;
    none = none;
    released = fits.released;
    call = fits.call;
    class = fits.class;
    bin' = fits.bin';
  }

  pub other_slabs : (slabs : Kept) → HeapFits k slabs
      → FramesFit k seat rooms known own (record h { slabs = slabs }) gone request old served stage fetched bin
  other_slabs slabs is = record {
    key = fits.key;
    seat' = fits.seat';
    slabs = is;
    cached = fits.cached;
    few = fits.few;
    spares = fits.spares;
    none = fits.none;
    released = fits.released;
    call = fits.call;
    class = fits.class;
    bin' = fits.bin';
  }

  pub other_cached : (next : ℕ) (cached : Rolled ℕ) → HasRoom (high_mark + 1) cached → length cached.items ≤ next
      → FramesFit k seat (record rooms { cached = next }) known own (record h { cached = cached }) gone request old
      served stage fetched bin
  other_cached next cached is low = record {
    key = fits.key;
    seat' = fits.seat';
    slabs = fits.slabs;
    cached = is;
    few = low;
    spares = fits.spares;
    none = fits.none;
    released = fits.released;
    call = fits.call;
    class = fits.class;
    bin' = fits.bin';
  }

  pub other_spares : (aside : Bool) (spares : Rolled ℕ) → HasRoom (most_slabs k.span) spares
      → (aside ≡ false → spares.items ≡ [])
      → FramesFit k seat (record rooms { aside = aside }) known own (record h { spares = spares }) gone request old
      served stage fetched bin
  other_spares aside spares is none = record {
    key = fits.key;
    seat' = fits.seat';
    slabs = fits.slabs;
    cached = fits.cached;
    few = fits.few;
    spares = is;
    none = none;
    released = fits.released;
    call = fits.call;
    class = fits.class;
    bin' = fits.bin';
  }

  pub other_released : (next : Rolled ℕ) → HasRoom most_released next
      → FramesFit k seat rooms known own h next request old served stage fetched bin
  other_released next is = record {
    key = fits.key;
    seat' = fits.seat';
    slabs = fits.slabs;
    cached = fits.cached;
    few = fits.few;
    spares = fits.spares;
    none = fits.none;
    released = is;
    call = fits.call;
    class = fits.class;
    bin' = fits.bin';
  }

  pub other_call : (request' : Request) (old' : Object) (served' : Served) (stage' : Stage)
      → CallFits k request' old' served' stage'
      → FramesFit k seat rooms known own h gone request' old' served' stage' fetched bin
  other_call request' old' served' stage' is = record {
    key = fits.key;
    seat' = fits.seat';
    slabs = fits.slabs;
    cached = fits.cached;
    few = fits.few;
    spares = fits.spares;
    none = fits.none;
    released = fits.released;
    call = is;
    class = fits.class;
    bin' = fits.bin';
  }

  pub other_class : (next : ℕ) → next < class_count
      → FramesFit k seat rooms known own h gone request old served stage next bin
  other_class next is = record {
    key = fits.key;
    seat' = fits.seat';
    slabs = fits.slabs;
    cached = fits.cached;
    few = fits.few;
    spares = fits.spares;
    none = fits.none;
    released = fits.released;
    call = fits.call;
    class = is;
    bin' = fits.bin';
  }

  pub other_bin : (next : ℕ) → next ≤ last_cache_bin
      → FramesFit k seat rooms known own h gone request old served stage fetched next
  other_bin next is = record {
    key = fits.key;
    seat' = fits.seat';
    slabs = fits.slabs;
    cached = fits.cached;
    few = fits.few;
    spares = fits.spares;
    none = fits.none;
    released = fits.released;
    call = fits.call;
    class = fits.class;
    bin' = is;
  }

module _ (sure : Bool) {k : Key} {seat : ℕ} where
  pub fits-answered : (l : Local) (answer : Answer) → Frames k seat plain_rooms l → Fits k seat sure (answered l answer)
  fits-answered l answer frames =
      (other_call frames l.call.request l.call.old l.call.served Stage.Idle tt, refl)

  pub fits-ended : (l : Local) → Frames k seat plain_rooms l → Fits k seat sure (ended l)
  fits-ended l frames = fits-answered l (ended_as l l.call.stage) frames
