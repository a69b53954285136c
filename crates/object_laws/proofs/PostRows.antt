-- Objects that are listed: the mark in hand is linked, and the public word names it.
use Rattle.std.proofs.Common.{◌≡◌, ℕ}
use Rattle.std.proofs.Common.{◌∷◌, refl, sym, ap, subst, ◌∙◌}
use Rattle.pool_words.specs.declared.words.Key.{Key}
use Rattle.word_codes.specs.declared.marks.Mark.{Mark}
use Rattle.word_codes.specs.declared.publics.Public.{Public}
use Rattle.word_codes.specs.Publics.{public_of}
use Rattle.public_list.specs.declared.posting.PostCall.{PostCall}
use Rattle.public_list.specs.declared.posting.PostAt.{PostAt}
use Rattle.chain_words.specs.declared.pushing.PushAt.{PushAt}
use Rattle.word_laws.specs.Memory.{put}
use Rattle.slab_laws.specs.Heaps.{slab_of}
use Rattle.object_laws.specs.Objects.{Held, IsOut, mark_link, public_link_to, links_in}
use Rattle.object_laws.specs.Objects.{Shadow, Core}
use Rattle.object_laws.specs.Objects.Task.{Away, Posting}
use Rattle.object_laws.specs.Parts.{IsHandMark, MarkFits}
use Rattle.object_laws.specs.Parts.{is_private, is_listed, IsPublicChain}
use Rattle.object_laws.specs.Parts.{ObjectsGood}
use Rattle.object_laws.specs.Rely.{NoReturn}
use Rattle.object_laws.specs.Rows.{shadow_listed}
use Rattle.slab_laws.proofs.CallerLemmas.{put-same, put-other, each}
use Rattle.object_laws.proofs.Parts.Marks.{marks-mark, marks-held}
use Rattle.object_laws.proofs.Parts.Marks.{grants-put, larges-set}
use Rattle.object_laws.proofs.Parts.Out.{out-set}
use Rattle.object_laws.proofs.Parts.Once.{privates-none, listed-none, privates-set}
use Rattle.object_laws.proofs.Parts.Once.{listed-pushed}
use Rattle.object_laws.proofs.Parts.Chains.{publics-marked, privates-marked}
use Rattle.object_laws.proofs.Parts.Chains.{publics-changed, public-pushed}
use Rattle.object_laws.proofs.Seats.{notes-stay, seats_keep, fits_at, taken_at, hand_at}
use Rattle.object_laws.proofs.Turns.{rely_at}
use Rattle.object_laws.proofs.Turns.{hand-no_other, again-put, none-new, lasts-same}
use Rattle.object_laws.proofs.Turns.{not_in_hand}
use Rattle.object_laws.proofs.Facts.{hand-no-grant}

abbrev pub link_core : ℕ → PostCall → ℕ → Mark → Core → Core
link_core t call found mark s = record s {
  marks = put s.marks call.unit mark;
  tasks = put s.tasks t (Posting call (PostAt.Push (PushAt.Exchange found)));
}

abbrev pub list_core : ℕ → PostCall → Core → Core
list_core t call s = record s {
  publics = put s.publics (slab_of call.unit) (Public.Filled call.unit);
  tasks = put s.tasks t Away;
}

pub link_keeps : (k : Key) (t : ℕ) (call : PostCall) (found : ℕ) (mark : Mark) (g : Shadow) (s : Core)
    → s.tasks t ≡ Posting call (PostAt.Push (PushAt.Link found)) → mark_link mark ≡ public_link_to (public_of found)
    → IsHandMark t mark → ObjectsGood k g s → ObjectsGood k g (link_core t call found mark s)
link_keeps k t call found mark g s is leads fits good =
    let task = fits_at k g s t (Posting call (PostAt.Push (PushAt.Link found))) is good in
    let was = task.1 in
    let next = Posting call (PostAt.Push (PushAt.Exchange found)) in
    let r = link_core t call found mark s in
    let stays : NoReturn g s g r = record {
      lasts = λ seat. lasts-same s.lasts seat;
      again = λ x z low e. (refl, refl);
    } in
    let alone = privates-none g.held g.privates g.taken call.unit (ap is_private was) good.privates_once in
    let seats = seats_keep k t next g s g r good (record {
      others = rely_at t call.unit g s g r (record {
        marks = put-other s.marks call.unit mark;
        held = λ x _. refl;
        slab = λ o c ne by. record { keeper = refl; same = refl; privates = refl; taken = refl };
        keeper = λ c. refl;
        lasts = λ o _. refl;
        tasks = put-other s.tasks t next;
      })
          (hand-no_other t call.unit g s was)
          (λ o ne e. ne (let q : Held.InHand t ≡ Held.InHand o = sym was ∙ e in let same : t ≡ o = cc in sym same));
      no_return = stays;
      stands = put-same s.tasks t next;
      task' = (task.0, was, ap mark_link (put-same s.marks call.unit mark) ∙ leads);
      taken = λ c by. taken_at k g s t (Posting call (PostAt.Push (PushAt.Link found))) is good c by;
      hand = λ x e. hand_at k g s t (Posting call (PostAt.Push (PushAt.Link found))) is good x e;
      notes = notes-stay g s g r (s.notes t) stays (good.notes_fit t);
      kept_notes = λ o _. refl;
    }) in
    record {
      book = good.book;
      kinds' = good.kinds';
      marks_fit = marks-mark g.held s.marks call.unit mark (subst (λ q. MarkFits q mark) (sym was) fits) good.marks_fit;
      grants = good.grants;
      out_fits = good.out_fits;
      larges = good.larges;
      privates_once = good.privates_once;
      listed_once = good.listed_once;
      private_chains = privates-marked s.marks s.book.heads g.privates call.unit mark (λ c. (alone c).0)
          good.private_chains;
      public_chains = publics-marked s.marks s.publics g.listed call.unit mark
          (listed-none g.held g.listed call.unit (ap is_listed was) good.listed_once) good.public_chains;
      counts_fit = good.counts_fit;
      taken_fit = record { kept = seats.kept; else = good.taken_fit.else };
      tasks_fit = seats.tasks_fit;
      notes_fit = seats.notes_fit;
      hands_fit = seats.hands_fit;
    }

pub list_keeps : (k : Key) (t : ℕ) (call : PostCall) (found : ℕ) (g : Shadow) (s : Core)
    → s.tasks t ≡ Posting call (PostAt.Push (PushAt.Exchange found)) → s.publics (slab_of call.unit) ≡ public_of found
    → ObjectsGood k g s → ObjectsGood k (shadow_listed call g) (list_core t call s)
list_keeps k t call found g s is won good =
    let task = fits_at k g s t (Posting call (PostAt.Push (PushAt.Exchange found))) is good in
    let was = task.1 in
    let h = shadow_listed call g in
    let r = list_core t call s in
    let stays : NoReturn g s h r = record {
      lasts = λ seat. lasts-same s.lasts seat;
      again = λ x z low e. (
        again-put g.held s.lasts call.unit Held.Listed
            (none-new s.lasts Held.Listed refl) x z low e,
        refl,
      );
    } in
    let seats = seats_keep k t Away g s h r good (record {
      others = rely_at t call.unit g s h r (record {
        marks = λ x _. refl;
        held = put-other g.held call.unit Held.Listed;
        slab = λ o c ne by. record { keeper = refl; same = refl; privates = refl; taken = refl };
        keeper = λ c. refl;
        lasts = λ o _. refl;
        tasks = put-other s.tasks t Away;
      })
          (hand-no_other t call.unit g s was)
          (λ o _. not_in_hand g.held call.unit Held.Listed o (λ z. cc));
      no_return = stays;
      stands = put-same s.tasks t Away;
      task' = tt;
      taken = λ c by. taken_at k g s t (Posting call (PostAt.Push (PushAt.Exchange found))) is good c by;
      hand = each (λ x q. q ≡ Held.InHand t → ⊥) g.held call.unit Held.Listed
          (λ x ne e. ne (hand_at k g s t (Posting call (PostAt.Push (PushAt.Exchange found))) is good x e)) (λ z. cc);
      notes = notes-stay g s h r (s.notes t) stays (good.notes_fit t);
      kept_notes = λ o _. refl;
    }) in
    record {
      book = good.book;
      kinds' = good.kinds';
      marks_fit = marks-held g.held s.marks call.unit Held.Listed
          (hand-no-grant t (s.marks call.unit) (subst (λ q. MarkFits q (s.marks call.unit)) was
          (good.marks_fit call.unit))) good.marks_fit;
      grants = grants-put g.held s.lasts g.ended call.unit Held.Listed refl good.grants;
      out_fits = out-set g.held s.book call.unit Held.Listed (subst IsOut (sym was) tt) tt good.out_fits;
      larges = larges-set k g.held s.book.keeper s.kinds call.unit Held.Listed tt good.larges;
      privates_once = privates-set g.held g.privates g.taken call.unit Held.Listed (ap is_private (sym was))
          good.privates_once;
      listed_once = listed-pushed g.held g.listed (slab_of call.unit) call.unit Held.Listed refl (ap is_listed was)
          refl good.listed_once;
      private_chains = good.private_chains;
      public_chains = publics-changed (links_in s.marks) s.publics g.listed (slab_of call.unit)
          (Public.Filled call.unit) (call.unit ∷ g.listed (slab_of call.unit))
          (public-pushed (links_in s.marks) (public_of found) (g.listed (slab_of call.unit)) call.unit task.2
          (subst (λ q. IsPublicChain (links_in s.marks) q (g.listed (slab_of call.unit))) won
          (good.public_chains (slab_of call.unit)))) good.public_chains;
      counts_fit = good.counts_fit;
      taken_fit = record { kept = seats.kept; else = good.taken_fit.else };
      tasks_fit = seats.tasks_fit;
      notes_fit = seats.notes_fit;
      hands_fit = seats.hands_fit;
    }
