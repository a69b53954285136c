-- Ends of grants.
use Rattle.std.proofs.Common.{◌≡◌, ◌≢◌, ℕ, ◌-◌, ◌<◌, Some, None}
use Rattle.std.proofs.Common.{◌∷◌, refl, sym, ap, subst, arith, ◌∙◌}
use Rattle.pool_types.specs.declared.values.Grant.{Grant}
use Rattle.pool_words.specs.declared.words.Key.{Key}
use Rattle.word_codes.specs.declared.marks.Mark.{Mark}
use Rattle.word_codes.specs.declared.kinds.Kind.{Kind}
use Rattle.word_codes.specs.Marks.{mark_of}
use Rattle.word_codes.specs.Places.{granule_of}
use Rattle.heap_slabs.specs.Records.{after_free}
use Rattle.public_list.specs.declared.ending.EndCall.{EndCall}
use Rattle.public_list.specs.declared.ending.EndAt.{EndAt}
use Rattle.public_list.specs.declared.posting.PostAt.{PostAt}
use Rattle.chain_words.specs.declared.pushing.PushAt.{PushAt}
use Rattle.word_laws.specs.Memory.{put}
use Rattle.chain_laws.specs.Chains.{IsChain, tally}
use Rattle.slab_laws.specs.Books.{Keeper, record_of, with_freed}
use Rattle.slab_laws.specs.OneSlab.{IsRecord, IsSlabOf}
use Rattle.slab_laws.specs.Heaps.{slab_of}
use Rattle.slab_laws.proofs.CallerLemmas.{book-set, headed_else, headed_here, record-of-slab, frees}
use Rattle.object_laws.specs.Objects.{Held, granted_in, IsOut, Task, mark_link, head_link, links_in}
use Rattle.object_laws.specs.Objects.{Shadow, Core, with_end}
use Rattle.object_laws.specs.Objects.Task.{Away, Ending, Posting}
use Rattle.object_laws.specs.Parts.{IsNoGrant, MarkFits, GrantsApart, OutFits, LargeFits}
use Rattle.object_laws.specs.Parts.{is_private, is_listed, TakenFits, TaskFits}
use Rattle.object_laws.specs.Parts.{IsInHand, ObjectsGood}
use Rattle.object_laws.specs.Rely.{NoReturn}
use Rattle.object_laws.specs.Rows.{granted_by, shadow_freed, shadow_given}
use Rattle.object_laws.specs.Rows.{post_of}
use Rattle.slab_laws.proofs.CallerLemmas.{put-same, put-other, each}
use Rattle.object_laws.proofs.Parts.Marks.{marks-set, granted_is_held}
use Rattle.object_laws.proofs.Parts.Marks.{grants-ended, larges-set}
use Rattle.object_laws.proofs.Parts.Out.{out-not, out-set, out-none}
use Rattle.object_laws.proofs.Parts.Once.{privates-none, listed-none, listed-set, privates-set}
use Rattle.object_laws.proofs.Parts.Once.{privates-pushed}
use Rattle.object_laws.proofs.Parts.Chains.{chain-marked, publics-marked, privates-marked}
use Rattle.object_laws.proofs.Parts.Chains.{privates-changed}
use Rattle.object_laws.proofs.Parts.Counts.{counts-set}
use Rattle.object_laws.proofs.Seats.{notes-stay, seats_keep, fits_at, taken_at, hand_at}
use Rattle.object_laws.proofs.Turns.{rely_at, own_slab, granted-no_one}
use Rattle.object_laws.proofs.Turns.{again-put, none-new, lasts-same}
use Rattle.object_laws.proofs.Turns.{not_in_hand}
use Rattle.object_laws.proofs.Facts.{slab_is, there_of, handed-of, small_is, slab_not_large, IsLargeOf}
use Rattle.object_laws.proofs.Facts.{large_is}
use Rattle.object_laws.proofs.Facts.IsLargeOf.{large_of}

abbrev pub own_core : ℕ → ℕ → Mark → Core → Core
own_core t u mark s = record s {
  marks = put s.marks u mark;
  book = with_freed (slab_of u) u s.book;
  tasks = put s.tasks t Away;
}

abbrev pub hand_core : ℕ → ℕ → Task → Core → Core
hand_core t u task s = record s {
  marks = put s.marks u (Mark.Hand t);
  tasks = put s.tasks t task;
}

-- an object that is held, in a slab of this seat
record Own (k : Key) (t u : ℕ) (gr : Grant) (g : Shadow) (s : Core) : Type 0 where
  pub by : s.book.keeper (slab_of u) ≡ Keeper.By t
  pub was : g.held u ≡ Held.Object gr
  pub none : (e : ℕ) → (tally u (g.privates e) ≡ 0) × (tally u (g.taken e) ≡ 0)
  pub slab : (0 < s.book.counts (slab_of u))
      × IsSlabOf (after_free (record_of s.book (slab_of u)) u) (u ∷ g.privates (slab_of u))

own_facts : (k : Key) (t u : ℕ) (gr : Grant) (g : Shadow) (s : Core) → s.book.keeper (slab_of u) ≡ Keeper.By t
    → g.held u ≡ Held.Object gr → ObjectsGood k g s → Own k t u gr g s
own_facts k t u gr g s by was good =
    let none = privates-none g.held g.privates g.taken u (ap is_private was) good.privates_once in record {
      by = by;
      was = was;
      none = none;
      slab = frees (record_of s.book (slab_of u)) (g.privates (slab_of u)) u
          (slab_is k g s (slab_of u) good (there_of (s.book.keeper (slab_of u)) t by))
          (handed-of k g s (slab_of u) u good refl (subst IsOut (sym was) tt)) (none (slab_of u)).0;
    }

pub own_keeps : (k : Key) (t : ℕ) (call : EndCall) (kind : Kind) (gr : Grant) (mark : Mark) (g : Shadow) (s : Core)
    → s.tasks t ≡ Ending call kind EndAt.Own → mark_of call.mark ≡ Mark.Granted gr
    → s.marks call.unit ≡ Mark.Granted gr → mark_link mark ≡ head_link (s.book.heads (slab_of call.unit))
    → IsNoGrant mark → ObjectsGood k g s
    → ObjectsGood k (shadow_freed call.unit (mark_of call.mark) g) (own_core t call.unit mark s)
own_keeps k t call kind gr mark g s is names won leads no_grant good =
    let task = fits_at k g s t (Ending call kind EndAt.Own) is good in
    let end = task.2 in
    let held = granted_is_held (g.held call.unit) gr (subst (MarkFits (g.held call.unit)) won (good.marks_fit call.unit)) in
    let was = small_is s.book call.unit kind (g.held call.unit) gr held (task.1.kind gr names held)
    (slab_not_large kind end.0) in
    made (own_facts k t call.unit gr g s end.1 was good)
  where
    u : ℕ
    u = call.unit

    made : Own k t call.unit gr g s
        → ObjectsGood k (shadow_freed call.unit (mark_of call.mark) g) (own_core t call.unit mark s)
    made f =
        let e = slab_of call.unit in
        let h = shadow_freed call.unit (mark_of call.mark) g in
        let r = own_core t call.unit mark s in
        let stays : NoReturn g s h r = record {
          lasts = λ seat. lasts-same s.lasts seat;
          again = λ x z low now. (
            again-put g.held s.lasts call.unit Held.Private
                (none-new s.lasts Held.Private refl) x z low now,
            refl,
          );
        } in
        let seats = seats_keep k t Away g s h r good (record {
          others = rely_at t call.unit g s h r (record {
            marks = put-other s.marks call.unit mark;
            held = put-other g.held call.unit Held.Private;
            slab = own_slab t (slab_of call.unit) g s h r f.by (λ c ne. record {
              keeper = refl;
              same = (headed_else s.book (slab_of call.unit) (s.book.counts (slab_of call.unit) - 1)
                  (Some call.unit)).same c (λ z. ne (sym z));
              privates = put-other g.privates (slab_of call.unit) (call.unit ∷ g.privates (slab_of call.unit)) c ne;
              taken = refl;
            });
            keeper = λ c. refl;
            lasts = λ o _. refl;
            tasks = put-other s.tasks t Away;
          })
              (λ o _. granted-no_one call.unit gr g s (ap granted_in f.was) o)
              (λ o _. not_in_hand g.held call.unit Held.Private o (λ z. cc));
          no_return = stays;
          stands = put-same s.tasks t Away;
          task' = tt;
          taken = λ c by. taken_at k g s t (Ending call kind EndAt.Own) is good c by;
          hand = each (λ x q. q ≡ Held.InHand t → ⊥) g.held call.unit Held.Private
              (λ x ne. hand_at k g s t (Ending call kind EndAt.Own) is good x) (λ z. cc);
          notes = notes-stay g s h r (s.notes t) stays (good.notes_fit t);
          kept_notes = λ o _. refl;
        }) in
        let out = out-set g.held s.book call.unit Held.Private (subst IsOut (sym f.was) tt) tt good.out_fits in
        let old = good.book.there (slab_of call.unit) (there_of (s.book.keeper (slab_of call.unit)) t f.by) in
        record {
          book = book-set k s.book (with_freed (slab_of call.unit) call.unit s.book) (slab_of call.unit)
              (headed_else s.book (slab_of call.unit) (s.book.counts (slab_of call.unit) - 1) (Some call.unit))
              (λ _. record {
                place = old.place;
                class = old.class;
                record' = subst IsRecord (sym (headed_here s.book (slab_of call.unit)
                    (s.book.counts (slab_of call.unit) - 1) (Some call.unit)))
                    (record-of-slab (after_free (record_of s.book (slab_of call.unit)) call.unit)
                    (call.unit ∷ g.privates (slab_of call.unit)) f.slab.1);
              })
              (λ none. absurd (none (there_of (s.book.keeper (slab_of call.unit)) t f.by))) good.book;
          kinds' = good.kinds';
          marks_fit = marks-set g.held s.marks call.unit Held.Private mark no_grant good.marks_fit;
          grants = subst (λ z. GrantsApart (put g.held call.unit Held.Private) s.lasts (with_end z g.ended))
              (sym (ap granted_by names))
              (grants-ended g.held s.lasts g.ended call.unit Held.Private gr (ap granted_in f.was) refl good.grants);
          out_fits = record { in_slab = out.in_slab; out = out.out };
          larges = larges-set k g.held s.book.keeper s.kinds call.unit Held.Private tt good.larges;
          privates_once = privates-pushed g.held g.privates g.taken (slab_of call.unit) call.unit Held.Private refl
              (ap is_private f.was) refl good.privates_once;
          listed_once = listed-set g.held g.listed call.unit Held.Private (ap is_listed (sym f.was)) good.listed_once;
          private_chains = privates-changed s.marks s.book.heads g.privates (slab_of call.unit) call.unit mark
              (Some call.unit) (call.unit ∷ g.privates (slab_of call.unit)) (λ c ne. (f.none c).0) (
                refl,
                subst (λ l. IsChain (links_in (put s.marks call.unit mark)) l (g.privates (slab_of call.unit)) 0)
                    (sym (ap mark_link (put-same s.marks call.unit mark) ∙ leads))
                    (chain-marked s.marks call.unit mark (head_link (s.book.heads (slab_of call.unit)))
                    (g.privates (slab_of call.unit)) 0 (f.none (slab_of call.unit)).0
                    (good.private_chains (slab_of call.unit))),
              )
              good.private_chains;
          public_chains = publics-marked s.marks s.publics g.listed call.unit mark
              (listed-none g.held g.listed call.unit (ap is_listed f.was) good.listed_once) good.public_chains;
          counts_fit = counts-set s.book.handed s.book.counts g.privates (slab_of call.unit)
              (s.book.counts (slab_of call.unit) - 1) (call.unit ∷ g.privates (slab_of call.unit))
              (let n = good.counts_fit (slab_of call.unit) in let some = f.slab.0 in omega arith) good.counts_fit;
          taken_fit = record { kept = seats.kept; else = good.taken_fit.else };
          tasks_fit = seats.tasks_fit;
          notes_fit = seats.notes_fit;
          hands_fit = seats.hands_fit;
        }

-- an object of another's slab, or a large one, comes into the seat's hand
given : (k : Key) (t u : ℕ) (gr : Grant) (mark : Mark) (before task : Task) (now : Held) (g : Shadow) (s : Core)
    → s.tasks t ≡ before → granted_in (g.held u) ≡ Some gr → granted_in now ≡ None
    → mark ≡ Mark.Granted gr → MarkFits now (Mark.Hand t)
    → OutFits (put g.held u now) s.book → LargeFits k u (s.book.keeper (slab_of u)) (s.kinds (granule_of u)) now
    → is_private now ≡ is_private (g.held u) → is_listed now ≡ is_listed (g.held u) → is_private (g.held u) ≡ 0
    → is_listed (g.held u) ≡ 0
    → ((o : ℕ) → o ≢ t → now ≢ Held.InHand o)
    → TaskFits k (shadow_given u mark now g) (hand_core t u task s) t task
    → ((e : ℕ) → s.book.keeper e ≡ Keeper.By t → TakenFits (links_in (put s.marks u (Mark.Hand t))) task e (g.taken e))
    → ((x : ℕ) → put g.held u now x ≡ Held.InHand t → IsInHand task x) → ObjectsGood k g s
    → ObjectsGood k (shadow_given u mark now g) (hand_core t u task s)
given k t u gr mark before task now g s is held none names fits out large same_private same_listed zero zero' new
    task' taken hands good =
    let h = shadow_given u mark now g in
    let r = hand_core t u task s in
    let stays : NoReturn g s h r = record {
      lasts = λ seat. lasts-same s.lasts seat;
      again = λ x z low e. (again-put g.held s.lasts u now (none-new s.lasts now none) x z low e, refl);
    } in
    let seats = seats_keep k t task g s h r good (record {
      others = rely_at t u g s h r (record {
        marks = put-other s.marks u (Mark.Hand t);
        held = put-other g.held u now;
        slab = λ o c ne by. record { keeper = refl; same = refl; privates = refl; taken = refl };
        keeper = λ c. refl;
        lasts = λ o _. refl;
        tasks = put-other s.tasks t task;
      })
          (λ o _. granted-no_one u gr g s held o)
          (λ o ne. not_in_hand g.held u now o (new o ne));
      no_return = stays;
      stands = put-same s.tasks t task;
      task' = task';
      taken = taken;
      hand = hands;
      notes = notes-stay g s h r (s.notes t) stays (good.notes_fit t);
      kept_notes = λ o _. refl;
    }) in
    let alone = privates-none g.held g.privates g.taken u zero good.privates_once in
    record {
      book = good.book;
      kinds' = good.kinds';
      marks_fit = marks-set g.held s.marks u now (Mark.Hand t) fits good.marks_fit;
      grants = subst (λ z. GrantsApart (put g.held u now) s.lasts (with_end z g.ended)) (sym (ap granted_by names))
          (grants-ended g.held s.lasts g.ended u now gr held none good.grants);
      out_fits = out;
      larges = larges-set k g.held s.book.keeper s.kinds u now large good.larges;
      privates_once = privates-set g.held g.privates g.taken u now same_private good.privates_once;
      listed_once = listed-set g.held g.listed u now same_listed good.listed_once;
      private_chains = privates-marked s.marks s.book.heads g.privates u (Mark.Hand t) (λ c. (alone c).0)
          good.private_chains;
      public_chains = publics-marked s.marks s.publics g.listed u (Mark.Hand t)
          (listed-none g.held g.listed u zero' good.listed_once) good.public_chains;
      counts_fit = good.counts_fit;
      taken_fit = record { kept = seats.kept; else = good.taken_fit.else };
      tasks_fit = seats.tasks_fit;
      notes_fit = seats.notes_fit;
      hands_fit = seats.hands_fit;
    }

pub other_keeps : (k : Key) (t : ℕ) (call : EndCall) (kind : Kind) (gr : Grant) (g : Shadow) (s : Core)
    → s.tasks t ≡ Ending call kind EndAt.Other → mark_of call.mark ≡ Mark.Granted gr
    → s.marks call.unit ≡ Mark.Granted gr → ObjectsGood k g s
    → ObjectsGood k (shadow_given call.unit (mark_of call.mark) (Held.InHand t) g)
    (hand_core t call.unit (Posting (post_of call) (PostAt.Push PushAt.Look)) s)
other_keeps k t call kind gr g s is names won good =
    let task = fits_at k g s t (Ending call kind EndAt.Other) is good in
    let held = granted_is_held (g.held call.unit) gr (subst (MarkFits (g.held call.unit)) won (good.marks_fit call.unit)) in
    let was = small_is s.book call.unit kind (g.held call.unit) gr held (task.1.kind gr names held) task.2.0 in
    given k t call.unit gr (mark_of call.mark) (Ending call kind EndAt.Other)
    (Posting (post_of call) (PostAt.Push PushAt.Look)) (Held.InHand t) g s is held refl names refl
    (out-set g.held s.book call.unit (Held.InHand t) (subst IsOut (sym was) tt) tt good.out_fits) tt
    (ap is_private (sym was)) (ap is_listed (sym was)) (ap is_private was) (ap is_listed was)
    (λ o ne e. ne (let q : t ≡ o = cc in sym q))
    (refl, put-same g.held call.unit (Held.InHand t), tt)
    (λ c by. taken_at k g s t (Ending call kind EndAt.Other) is good c by)
    (each (λ x q. q ≡ Held.InHand t → x ≡ call.unit) g.held call.unit (Held.InHand t)
    (λ x ne e. absurd (hand_at k g s t (Ending call kind EndAt.Other) is good x e)) (λ e. refl))
    good

pub large_keeps : (k : Key) (t : ℕ) (call : EndCall) (kind : Kind) (gr : Grant) (g : Shadow) (s : Core)
    → s.tasks t ≡ Ending call kind EndAt.Large → mark_of call.mark ≡ Mark.Granted gr
    → s.marks call.unit ≡ Mark.Granted gr → ObjectsGood k g s
    → ObjectsGood k (shadow_given call.unit (mark_of call.mark) Held.NotOut g) (hand_core t call.unit Away s)
large_keeps k t call kind gr g s is names won good =
    let task = fits_at k g s t (Ending call kind EndAt.Large) is good in
    let held = granted_is_held (g.held call.unit) gr (subst (MarkFits (g.held call.unit)) won (good.marks_fit call.unit)) in
    by held (large_is s.book call.unit kind (g.held call.unit) gr held (task.1.kind gr names held) task.2)
  where
    by : granted_in (g.held call.unit) ≡ Some gr → IsLargeOf (g.held call.unit) gr
        → ObjectsGood k (shadow_given call.unit (mark_of call.mark) Held.NotOut g) (hand_core t call.unit Away s)
    by held (large_of x n was) =
        given k t call.unit gr (mark_of call.mark) (Ending call kind EndAt.Large) Away Held.NotOut g s is held refl
        names tt
        (out-none g.held s.book call.unit Held.NotOut (out-not (g.held call.unit) (Held.Large gr x n) was (λ e. e))
        (λ e. e) good.out_fits) tt
        (ap is_private (sym was)) (ap is_listed (sym was)) (ap is_private was) (ap is_listed was)
        (λ o ne e. cc) tt
        (λ c by. taken_at k g s t (Ending call kind EndAt.Large) is good c by)
        (each (λ x q. q ≡ Held.InHand t → ⊥) g.held call.unit Held.NotOut
        (λ x ne e. hand_at k g s t (Ending call kind EndAt.Large) is good x e) (λ e. cc))
        good
