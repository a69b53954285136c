-- What a local says where a call goes on with small objects, or leaves.
use Rattle.std.proofs.Common.{◌≡◌, ℕ, ◌<◌, Bool, true, false, cond, eqb, Option, Some, None}
use Rattle.std.proofs.Common.{refl, sym, ap, subst, arith, ◌∙◌}
use Rattle.std.specs.Prelude.{◌||◌}
use Rattle.pool_types.specs.Geometry.{class_count, slab_granules}
use Rattle.pool_types.specs.declared.values.Answer.{Answer}
use Rattle.pool_words.specs.declared.words.Key.{Key}
use Rattle.backend_bins.specs.declared.blocks.Want.{Want}
use Rattle.chain_words.specs.Pushing.{push_learn}
use Rattle.chain_words.specs.declared.pushing.PushNext.{PushNext}
use Rattle.heap_slabs.specs.declared.heap.Leaving.{Leaving}
use Rattle.heap_slabs.specs.declared.records.HeapSlab.{HeapSlab}
use Rattle.heap_slabs.specs.declared.slabs.Wanted.{Wanted}
use Rattle.heap_slabs.specs.Heaps.{leaving_by, leaving_slab, most_slabs, next_to_leave}
use Rattle.heap_slabs.specs.Records.{is_unused, of_header}
use Rattle.heap_slabs.specs.Rolls.{after_push, newest_of, without_newest}
use Rattle.heap_slabs.specs.Slabs.{after_add, after_join_of, after_remove, first_from, first_of_class, record_at}
use Rattle.slab_laws.specs.Heaps.{HeapFits}
use Rattle.mailbox.specs.Boxes.{box_learn}
use Rattle.mailbox.specs.declared.boxes.BoxAt.{BoxAt}
use Rattle.mailbox.specs.declared.boxes.BoxNext.{BoxNext}
use Rattle.orphans.specs.Adopting.{adopt_taken}
use Rattle.orphans.specs.Leaving.{leave_learn, leave_pushed}
use Rattle.orphans.specs.declared.adopting.AdoptAt.{AdoptAt}
use Rattle.orphans.specs.declared.leaving.LeaveAt.{LeaveAt}
use Rattle.orphans.specs.declared.leaving.LeaveNext.{LeaveNext}
use Rattle.public_list.specs.Joining.{join_learn}
use Rattle.public_list.specs.declared.joining.JoinAt.{JoinAt}
use Rattle.public_list.specs.declared.joining.JoinNext.{JoinNext}
use Rattle.word_codes.specs.Links.{link_of}
use Rattle.word_codes.specs.Nexts.{next_link_of, next_of}
use Rattle.step_local.specs.declared.frames.Local.{Local}
use Rattle.step_local.specs.declared.frames.ResetStage.{ResetStage}
use Rattle.step_local.specs.declared.frames.Served.{Served}
use Rattle.step_local.specs.declared.frames.Stage.{Stage}
use Rattle.step_local.specs.declared.frames.Tried.{Tried}
use Rattle.step_local.specs.Leaving.{asking, class_at, class_in, leave_learn_of, leaving, leaving_as, left_as}
use Rattle.step_local.specs.Slabs.{adopt_learn_of, adopted_as, adopted_at, adopting_on, adopts_enough, box_learn_of}
use Rattle.step_local.specs.Slabs.{boxed_as, cached_or_asked, class_of_served, fetched, fetched_at, found_slab}
use Rattle.step_local.specs.Slabs.{getting_small, join_learn_of, joined_as, left_or_waits, looking_on, mailed_on}
use Rattle.step_local.specs.Slabs.{slab_adopted, slab_came, spare_learn_of, spared_as, spared_on, spares_back}
use Rattle.step_local.specs.Slabs.{sparing, with_joined}
use Rattle.step_fits.specs.Asked.{HasMissed, want_of}
use Rattle.step_fits.specs.Frames.{Frames, aside_rooms, plain_rooms, rooms_adopt}
use Rattle.step_fits.specs.Large.{PlaceFits}
use Rattle.step_fits.specs.Mail.{AdoptFits, Adopts, Awaits, Fetches, IsOrphanReset, LeaveFits, ResetTakes, SpareFits}
use Rattle.step_fits.specs.Mail.{TakesMail}
use Rattle.step_fits.specs.Small.{EndsSlab, GivesUp, IsSmall, Keeps, KeepsUnused}
use Rattle.step_fits.proofs.Framed.{Fits, fits-answered, other_class, other_rooms}
use Rattle.step_fits.proofs.Framed.{other_slabs, other_spares}
use Rattle.step_fits.proofs.Heaps.{add-fits, class-found, class-low, from-found, join-fits, join-stays, remove-fits}
use Rattle.step_fits.proofs.Resets.{GoesOn, fits-orphan_adopted, fits-reset_on}
use Rattle.step_fits.proofs.Rolls.{newest-none, newest-room, push-room}

-- what a leaving heap gives up next
abbrev pub GivesNext : Local → Leaving → Type 0
GivesNext l (Leaving.Cached slab) = newest_of l.heap.cached ≡ Some slab
GivesNext l (Leaving.Unused kept) = KeepsUnused l kept.slab
GivesNext l (Leaving.Held kept) = Keeps l kept.slab
GivesNext l Leaving.Nothing = Unit {0}

gives_kept : (l : Local) (kept : HeapSlab) (b : Bool) → is_unused kept ≡ b
    → record_at l.heap.slabs.records kept.slab ≡ Some kept
    → GivesNext l (cond b (Leaving.Unused kept) (Leaving.Held kept))
gives_kept l kept true unused is = (kept, record { there = is; unused = unused })
gives_kept l kept false unused is = (kept, record { there = is })

gives_slab : (k : Key) (l : Local) (found : Option HeapSlab) → HeapFits k l.heap.slabs
    → first_from Wanted.Any l.heap.slabs 0 ≡ found → GivesNext l (leaving_slab found)
gives_slab k l None fits is = tt
gives_slab k l (Some kept) fits is = gives_kept l kept (is_unused kept) refl
    (from-found k Wanted.Any l.heap.slabs 0 kept fits is).there

gives_by : (k : Key) (l : Local) (one : Option ℕ) → HeapFits k l.heap.slabs → newest_of l.heap.cached ≡ one
    → GivesNext l (leaving_by l.heap one)
gives_by k l (Some slab) fits is = is
gives_by k l None fits is = gives_slab k l (first_from Wanted.Any l.heap.slabs 0) fits refl

pub gives_next : (k : Key) (l : Local) → HeapFits k l.heap.slabs → GivesNext l (next_to_leave l.heap)
gives_next k l fits = gives_by k l (newest_of l.heap.cached) fits refl

-- what goes on once a mailbox, or orphans, are dealt with
abbrev pub Fetched : Local → Stage → Type 0
Fetched l Stage.Getting = l.call.served ≡ Served.Small l.fetch.class
Fetched l Stage.Leaving = Awaits l
Fetched l (Stage.Resetting stage) = GoesOn stage
Fetched l _ = Unit {0}

reset_taken : (l : Local) (stage : ResetStage) → ResetTakes l stage → GoesOn stage
reset_taken l (ResetStage.Heap class) is = tt
reset_taken l _ is = absurd is

takes-fetched : (l : Local) (stage : Stage) → TakesMail l stage → Fetched l stage
takes-fetched l Stage.Getting is = is.0
takes-fetched l Stage.Leaving is = is
takes-fetched l (Stage.Resetting stage) is = reset_taken l stage is
takes-fetched l _ is = absurd is

reset_adopts : (stage : ResetStage) → IsOrphanReset stage → GoesOn stage
reset_adopts (ResetStage.Orphans rest) is = tt
reset_adopts _ is = absurd is

adopts-fetched : (l : Local) (stage : Stage) → Adopts l stage → Fetched l stage
adopts-fetched l Stage.Getting is = is.0
adopts-fetched l (Stage.Resetting stage) is = reset_adopts stage is
adopts-fetched l _ is = absurd is

-- a mailbox is looked into once
abbrev TriedFits : Local → Tried → Type 0
TriedFits l Tried.Mailbox = l.call.served ≡ Served.Small l.fetch.class
TriedFits l _ = Unit {0}

tried_served : (l : Local) (tried : Tried) → l.call.served ≡ Served.Small l.fetch.class → TriedFits l tried
tried_served l Tried.Mailbox is = is
tried_served l _ is = tt

small_by : (served : Served) (class : ℕ) → served ≡ Served.Small class → IsSmall served
small_by served class is = subst IsSmall (sym is) tt

-- the slab that is awaited is kept when objects are joined to slabs
joined_takes : (k : Key) (l : Local) (slab first count : ℕ) (stage : Stage) → HeapFits k l.heap.slabs
    → TakesMail l stage → TakesMail (with_joined l slab first count) stage
joined_takes k l slab first count Stage.Leaving fits is =
    let now = join-stays k l.heap.slabs slab first count l.fetch.awaited is.0 fits is.1.there in
    (now.0, record { there = now.1.there; class' = now.1.class' ∙ is.1.class' })
joined_takes k l slab first count _ fits is = is

getting_adopts : (l : Local) → l.call.stage ≡ Stage.Getting → Adopts l l.call.stage → Fetches l Tried.Orphans
getting_adopts l is adopts = subst (Adopts l) is adopts

never : {A : Type 0} → true ≡ false → A
never is = absurd (cc)

module _ (sure : Bool) {k : Key} {seat : ℕ} where
  pub fits-leaving_as : (l : Local) (what : Leaving) → Frames k seat plain_rooms l → l.call.stage ≡ Stage.Leaving
      → GivesNext l what → Fits k seat sure (leaving_as l what)
  fits-leaving_as l (Leaving.Cached slab) frames is gives = (frames, (gives, subst (GivesUp l) (sym is) tt))
  fits-leaving_as l (Leaving.Unused kept) frames is gives = (frames, subst (EndsSlab l kept.slab) (sym is) gives)
  fits-leaving_as l (Leaving.Held kept) frames is gives = (frames, (is, gives))
  fits-leaving_as l Leaving.Nothing frames is gives = fits-answered sure l Answer.Exited frames

  pub fits-leaving : (l : Local) → Frames k seat plain_rooms l → l.call.stage ≡ Stage.Leaving
      → Fits k seat sure (leaving l)
  fits-leaving l frames is =
      fits-leaving_as l (next_to_leave l.heap) frames is (gives_next k l frames.slabs)

  fits-left_as : (l : Local) (slab : ℕ) (next : LeaveNext) → Frames k seat plain_rooms l → LeaveFits l slab
      → Fits k seat sure (left_as l slab next)
  fits-left_as l slab (LeaveNext.Goes at) frames is = (frames, is)
  fits-left_as l slab LeaveNext.Filled frames is =
      let kept : HeapSlab = is.1.0 in
      let there = is.1.1.there in
      let class : class_at l slab ≡ kept.class = ap class_in there in
      let low : class_at l slab < class_count =
      subst (λ n. n < class_count) (sym class) (class-low l.heap.slabs slab kept frames.slabs there) in
      let next : Local =
      record l { fetch = record l.fetch { class = class_at l slab; awaited = slab; came = false } } in (
        other_class frames (class_at l slab) low,
        subst (TakesMail next) (sym is.0) (kept, record { there = there; class' = sym class }),
      )
  fits-left_as l slab LeaveNext.Left frames is =
      let slabs = after_remove l.heap.slabs slab in
      fits-leaving (record l { heap = record l.heap { slabs = slabs } })
      (other_slabs frames slabs (remove-fits k l.heap.slabs slab frames.slabs)) is.0

  pub fits-leave_learn_of : (l : Local) (slab : ℕ) (at : LeaveAt) (f : ℕ) → Frames k seat plain_rooms l
      → LeaveFits l slab → Fits k seat sure (leave_learn_of l slab at f)
  fits-leave_learn_of l slab at f frames is = fits-left_as l slab (leave_learn at f) frames is

  -- the backend is asked for a piece
  pub fits-asking : (l : Local) (want : Want) → Frames k seat plain_rooms l → l.call.stage ≡ Stage.Getting
      → want ≡ want_of l.call.served → HasMissed l.call l.call.served → Fits k seat sure (asking l want)
  fits-asking l want frames is wanted missed = (frames, ((is, wanted, missed), tt))

  fits-cached_or_asked : (l : Local) (class : ℕ) (one : Option ℕ) → Frames k seat plain_rooms l
      → l.call.stage ≡ Stage.Getting → l.call.served ≡ Served.Small class → newest_of l.heap.cached ≡ one
      → Fits k seat sure (cached_or_asked l one)
  fits-cached_or_asked l class (Some slab) frames is small e =
      (frames, ((is, small_by l.call.served class small), e))
  fits-cached_or_asked l class None frames is small e =
      fits-asking l (record { granules = slab_granules; slab = true }) frames is
      (ap want_of (sym small)) (subst (HasMissed l.call) (sym small) tt)

  fits-looking_on : (l : Local) (class : ℕ) (tried : Tried) → Frames k seat plain_rooms l
      → l.call.stage ≡ Stage.Getting → l.call.served ≡ Served.Small class → class < class_count
      → TriedFits l tried → Fits k seat sure (looking_on l class tried)
  fits-looking_on l class Tried.Nothing frames is small low fits =
      let next : Local = record l {
        call = record l.call { tried = Tried.Mailbox };
        fetch = record l.fetch { class = class; came = false };
      } in (other_class frames class low, subst (TakesMail next) (sym is) (small, refl))
  fits-looking_on l class Tried.Mailbox frames is small low fits =
      let next : Local = record l { call = record l.call { tried = Tried.Orphans } } in
      (frames, (subst (Adopts next) (sym is) (fits, refl), tt))
  fits-looking_on l class Tried.Orphans frames is small low fits =
      fits-cached_or_asked l class (newest_of l.heap.cached) frames is small refl

  fits-found_slab : (l : Local) (class : ℕ) (found : Option HeapSlab) → Frames k seat plain_rooms l
      → l.call.stage ≡ Stage.Getting → l.call.served ≡ Served.Small class → class < class_count
      → TriedFits l l.call.tried → first_of_class Wanted.WithObject l.heap.slabs class ≡ found
      → Fits k seat sure (found_slab l class found)
  fits-found_slab l class (Some kept) frames is small low fits e =
      let found = class-found k Wanted.WithObject l.heap.slabs class kept frames.slabs e in
      let next : Local = record l { call = record l.call { slab = kept.slab } } in (
        frames,
        (
          is,
          omega arith,
          subst (PlaceFits sure next) (sym small) (λ _. (
            kept,
            record {
              there = found.0.there;
              class' = found.1 ∙ sym (ap class_of_served small);
              object = found.0.wanted';
            },
          )),
        ),
      )
  fits-found_slab l class None frames is small low fits e =
      fits-looking_on l class l.call.tried frames is small low fits

  pub fits-getting_small : (l : Local) (class : ℕ) → Frames k seat plain_rooms l → l.call.stage ≡ Stage.Getting
      → l.call.served ≡ Served.Small class → class < class_count → TriedFits l l.call.tried
      → Fits k seat sure (getting_small l class)
  fits-getting_small l class frames is small low fits = fits-found_slab l class
      (first_of_class Wanted.WithObject l.heap.slabs class) frames is small low fits refl

  fits-left_or_waits : (l : Local) (b : Bool) → Frames k seat plain_rooms l → l.call.stage ≡ Stage.Leaving
      → Awaits l → Fits k seat sure (left_or_waits l b)
  fits-left_or_waits l true frames is awaits = fits-leaving l frames is
  fits-left_or_waits l false frames is awaits = (frames, subst (TakesMail l) (sym is) awaits)

  fits-fetched_at : (l : Local) (stage : Stage) → Frames k seat plain_rooms l → l.call.stage ≡ stage
      → Fetched l stage → Fits k seat sure (fetched_at l stage)
  fits-fetched_at l Stage.Getting frames is fits =
      let class : class_of_served l.call.served ≡ l.fetch.class = ap class_of_served fits in
      fits-getting_small l (class_of_served l.call.served) frames is (fits ∙ ap Served.Small (sym class))
      (subst (λ n. n < class_count) (sym class) frames.class) (tried_served l l.call.tried fits)
  fits-fetched_at l Stage.Leaving frames is fits = fits-left_or_waits l l.fetch.came frames is fits
  fits-fetched_at l (Stage.Resetting stage) frames is fits = fits-reset_on sure l stage frames is fits
  fits-fetched_at l Stage.Idle frames is fits = fits-answered sure l Answer.Exited frames
  fits-fetched_at l Stage.Looking frames is fits = fits-answered sure l Answer.Exited frames
  fits-fetched_at l Stage.Ending frames is fits = fits-answered sure l Answer.Exited frames
  fits-fetched_at l Stage.Replacing frames is fits = fits-answered sure l Answer.Exited frames
  fits-fetched_at l Stage.Undoing frames is fits = fits-answered sure l Answer.Exited frames

  fits-fetched : (l : Local) → Frames k seat plain_rooms l → Fetched l l.call.stage → Fits k seat sure (fetched l)
  fits-fetched l frames fits = fits-fetched_at l l.call.stage frames refl fits

  -- mail
  fits-mailed_on : (l : Local) (one : Option ℕ) → Frames k seat plain_rooms l → TakesMail l l.call.stage
      → Fits k seat sure (mailed_on l one)
  fits-mailed_on l (Some slab) frames takes = (frames, takes)
  fits-mailed_on l None frames takes = fits-fetched l frames (takes-fetched l l.call.stage takes)

  fits-slab_came : (l : Local) (slab : ℕ) (rest : Option ℕ) → Frames k seat plain_rooms l
      → TakesMail l l.call.stage → Fits k seat sure (slab_came l slab rest)
  fits-slab_came l slab rest frames takes =
      fits-mailed_on (record l { fetch = record l.fetch { came = l.fetch.came || eqb slab l.fetch.awaited } }) rest
      frames takes

  joined_frames : (l : Local) (slab first count : ℕ) → Frames k seat plain_rooms l
      → Frames k seat plain_rooms (with_joined l slab first count)
  joined_frames l slab first count frames = other_slabs frames (after_join_of l.heap.slabs slab first count)
      (join-fits k l.heap.slabs slab first count frames.slabs)

  fits-boxed_as : (l : Local) (next : BoxNext) → Frames k seat plain_rooms l → TakesMail l l.call.stage
      → Fits k seat sure (boxed_as l next)
  fits-boxed_as l (BoxNext.Goes at) frames takes = (frames, takes)
  fits-boxed_as l BoxNext.Empty frames takes = fits-fetched l frames (takes-fetched l l.call.stage takes)
  fits-boxed_as l (BoxNext.Unchanged slab rest) frames takes = fits-slab_came l slab rest frames takes
  fits-boxed_as l (BoxNext.Joined slab first count rest) frames takes =
      fits-slab_came (with_joined l slab first count) slab rest (joined_frames l slab first count frames)
      (joined_takes k l slab first count l.call.stage frames.slabs takes)

  pub fits-box_learn_of : (l : Local) (at : BoxAt) (f : ℕ) → Frames k seat plain_rooms l
      → TakesMail l l.call.stage → Fits k seat sure (box_learn_of l at f)
  fits-box_learn_of l at f frames takes = fits-boxed_as l (box_learn at f) frames takes

  -- orphans
  fits-sparing : (l : Local) (one : Option ℕ) → Frames k seat aside_rooms l → l.call.stage ≡ Stage.Getting
      → Fetches l Tried.Orphans → newest_of l.heap.spares ≡ one → Fits k seat sure (sparing l one)
  fits-sparing l (Some slab) frames is fetches e = (
    other_spares frames true (without_newest l.heap.spares)
        (newest-room (most_slabs k.span) l.heap.spares frames.spares) never,
    (is, fetches, tt),
  )
  fits-sparing l None frames is fetches e = fits-fetched l
      (other_rooms frames plain_rooms frames.few (λ _. newest-none l.heap.spares e))
      (subst (Fetched l) (sym is) fetches.0)

  fits-spares_back : (l : Local) → Frames k seat aside_rooms l → l.call.stage ≡ Stage.Getting
      → Fetches l Tried.Orphans → Fits k seat sure (spares_back l)
  fits-spares_back l frames is fetches = fits-sparing l (newest_of l.heap.spares) frames is fetches refl

  fits-spared_on : (l : Local) (one : Option ℕ) → Frames k seat aside_rooms l → l.call.stage ≡ Stage.Getting
      → Fetches l Tried.Orphans → Fits k seat sure (spared_on l one)
  fits-spared_on l (Some slab) frames is fetches = (frames, (subst (Adopts l) (sym is) fetches, is))
  fits-spared_on l None frames is fetches = fits-spares_back l frames is fetches

  fits-taken : (l : Local) (one : Option ℕ) → Frames k seat plain_rooms l → Adopts l l.call.stage
      → Fits k seat sure (adopted_as l (adopt_taken one))
  fits-taken l (Some slab) frames adopts = (frames, (adopts, tt))
  fits-taken l None frames adopts = fits-fetched l frames (adopts-fetched l l.call.stage adopts)

  pub fits-adopt_learn_of : (l : Local) (at : AdoptAt) (f : ℕ) → Frames k seat (rooms_adopt at) l → AdoptFits l at
      → Fits k seat sure (adopt_learn_of l at f)
  fits-adopt_learn_of l AdoptAt.Take f frames is = fits-taken l (link_of f) frames is.0
  fits-adopt_learn_of l (AdoptAt.Header slab) f frames is = (frames, (is.0, tt))
  fits-adopt_learn_of l (AdoptAt.Next slab header) f frames is = (frames, (is.0, tt))
  fits-adopt_learn_of l (AdoptAt.Settle slab header rest) f frames is = (frames, (is.0, tt))
  fits-adopt_learn_of l (AdoptAt.Own slab header rest) f frames is =
      let new : HeapSlab = of_header slab l.fetch.class header in
      (other_slabs frames (after_add l.heap.slabs new) (add-fits k l.heap.slabs new frames.slabs), is.0)
  fits-adopt_learn_of l (AdoptAt.Spare slab) f frames is =
      fits-spared_on (record l { heap = record l.heap { spares = after_push l.heap.spares slab } })
      (next_link_of (next_of f))
      (other_spares frames true (after_push l.heap.spares slab)
      (push-room (most_slabs k.span) l.heap.spares slab frames.spares) never) is.1 (getting_adopts l is.1 is.0)

  fits-adopting_on : (l : Local) (enough : Bool) (one : Option ℕ) → Frames k seat plain_rooms l
      → l.call.stage ≡ Stage.Getting → Fetches l Tried.Orphans → Fits k seat sure (adopting_on l enough one)
  fits-adopting_on l enough None frames is fetches =
      fits-fetched l frames (subst (Fetched l) (sym is) fetches.0)
  fits-adopting_on l true (Some slab) frames is fetches =
      (other_rooms frames aside_rooms frames.few never, (subst (Adopts l) (sym is) fetches, is))
  fits-adopting_on l false (Some slab) frames is fetches = (frames, (subst (Adopts l) (sym is) fetches, tt))

  fits-adopted_at : (l : Local) (slab : ℕ) (rest : Option ℕ) (stage : Stage) → Frames k seat plain_rooms l
      → l.call.stage ≡ stage → Adopts l stage → Fits k seat sure (adopted_at l slab rest stage)
  fits-adopted_at l slab rest Stage.Getting frames is adopts =
      fits-adopting_on l (adopts_enough l slab) rest frames is adopts
  fits-adopted_at l slab rest (Stage.Resetting stage) frames is adopts =
      fits-orphan_adopted sure l slab rest frames
  fits-adopted_at l slab rest _ frames is adopts = absurd adopts

  fits-slab_adopted : (l : Local) (slab : ℕ) (rest : Option ℕ) → Frames k seat plain_rooms l
      → Adopts l l.call.stage → Fits k seat sure (slab_adopted l slab rest)
  fits-slab_adopted l slab rest frames adopts = fits-adopted_at l slab rest l.call.stage frames refl adopts

  fits-joined_as : (l : Local) (slab : ℕ) (rest : Option ℕ) (next : JoinNext) → Frames k seat plain_rooms l
      → Adopts l l.call.stage → Fits k seat sure (joined_as l slab rest next)
  fits-joined_as l slab rest (JoinNext.Goes at) frames adopts = (frames, adopts)
  fits-joined_as l slab rest JoinNext.Nothing frames adopts = fits-slab_adopted l slab rest frames adopts
  fits-joined_as l slab rest (JoinNext.Joined first count) frames adopts =
      fits-slab_adopted (with_joined l slab first count) slab rest (joined_frames l slab first count frames) adopts

  pub fits-join_learn_of : (l : Local) (slab : ℕ) (rest : Option ℕ) (at : JoinAt) (f : ℕ)
      → Frames k seat plain_rooms l → Adopts l l.call.stage → Fits k seat sure (join_learn_of l slab rest at f)
  fits-join_learn_of l slab rest at f frames adopts =
      fits-joined_as l slab rest (join_learn at f) frames adopts

  fits-pushed : (l : Local) (next : PushNext) → Frames k seat aside_rooms l → l.call.stage ≡ Stage.Getting
      → Fetches l Tried.Orphans → Fits k seat sure (spared_as l (leave_pushed next))
  fits-pushed l (PushNext.Goes at) frames is fetches = (frames, (is, fetches, tt))
  fits-pushed l (PushNext.Pushed found) frames is fetches = fits-spares_back l frames is fetches

  pub fits-spare_learn_of : (l : Local) (at : LeaveAt) (f : ℕ) → Frames k seat aside_rooms l → SpareFits l at
      → Fits k seat sure (spare_learn_of l at f)
  fits-spare_learn_of l (LeaveAt.Push at) f frames is = fits-pushed l (push_learn at f) frames is.0 is.1
  fits-spare_learn_of l _ f frames is = absurd is.2
