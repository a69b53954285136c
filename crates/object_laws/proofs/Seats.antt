-- What a seat relies on stays while another steps.
use Rattle.std.proofs.Common.{◌≡◌, ◌≢◌, ◌⊎◌, inl, inr, ℕ, ◌≤◌, Option, Some, List, [], ◌∷◌, sym, ap}
use Rattle.std.proofs.Common.{subst, arith, ◌∙◌, le_trans}
use Rattle.pool_types.specs.declared.values.Grant.{Grant}
use Rattle.pool_words.specs.declared.words.Key.{Key}
use Rattle.size_classes.specs.Classes.{class_objects}
use Rattle.word_codes.specs.declared.marks.Mark.{Mark}
use Rattle.word_codes.specs.declared.kinds.Kind.{Kind}
use Rattle.heap_slabs.specs.declared.records.HeapSlab.{HeapSlab}
use Rattle.heap_slabs.specs.Records.{unit_of}
use Rattle.public_list.specs.declared.looking.LookAt.{LookAt}
use Rattle.public_list.specs.declared.ending.EndAt.{EndAt}
use Rattle.public_list.specs.declared.posting.PostAt.{PostAt}
use Rattle.public_list.specs.declared.joining.JoinAt.{JoinAt}
use Rattle.chain_words.specs.declared.pushing.PushAt.{PushAt}
use Rattle.word_laws.proofs.CallerLemmas.{equal_or}
use Rattle.chain_laws.specs.Chains.{Link, IsChain, tally}
use Rattle.chain_laws.specs.Chains.Link.{To, Ends}
use Rattle.chain_laws.proofs.CallerLemmas.{leads-same, tally-here}
use Rattle.slab_laws.specs.Books.{Keeper, Book}
use Rattle.slab_laws.specs.Heaps.{slab_of}
use Rattle.object_laws.specs.Objects.{Held, granted_in, Task, Note, Shadow, Core, links_in, mark_link, head_link}
use Rattle.object_laws.specs.Objects.Task.{Away, Looking, Ending, Posting, Joining, Reading, Taking, Resting, Blocking}
use Rattle.object_laws.specs.Parts.{IsFilledChain, JoinFits, TakenFits, KindIs, SeenFits, OldFits, IfHeld, IsLarge}
use Rattle.object_laws.specs.Parts.{NoteFits, NotesFit, note_of, LookFits, EndFits, PostFits, TaskFits, IsInHand, HandsFit}
use Rattle.object_laws.specs.Parts.{ObjectsGood}
use Rattle.object_laws.specs.Rely.{Rely, NoReturn, TurnFits}
use Rattle.object_laws.specs.Rely.IsMine.{hand, ready, private}
use Rattle.object_laws.specs.Rows.{tail_of}
use Rattle.object_laws.proofs.Parts.Once.{private-there}
use Rattle.object_laws.proofs.Parts.Chains.{chain-starts}

pub is_by : (keeper : Keeper) (seat : ℕ) → (keeper ≡ Keeper.By seat) ⊎ (keeper ≢ Keeper.By seat)
is_by Keeper.Nobody seat = inr (λ e. cc)
is_by (Keeper.By other) seat = equal_or other seat (λ e. inl (ap Keeper.By e)) (λ ne. inr (λ e. ne (cc)))
is_by Keeper.Orphan seat = inr (λ e. cc)
is_by (Keeper.Adopting other) seat = inr (λ e. cc)
is_by (Keeper.Cached other) seat = inr (λ e. cc)

pub by_other : (keeper : Keeper) (seat other : ℕ) → keeper ≡ Keeper.By seat → other ≢ seat → keeper ≢ Keeper.By other
by_other keeper seat other e ne f = ne (let g : Keeper.By seat ≡ Keeper.By other = sym e ∙ f in cc)

-- notes
pub made_of : (lasts : ℕ → ℕ) (word : ℕ) → SeenFits lasts word → OldFits lasts word
made_of lasts word seen gr names =
    let e : Mark.Granted seen.grant ≡ Mark.Granted gr = sym seen.names ∙ names in
    let same : seen.grant ≡ gr = cc in subst (λ (z : Grant). z.number ≤ lasts z.seat) same seen.made

pub seen-more : (lasts more : ℕ → ℕ) (word : ℕ) → ((seat : ℕ) → lasts seat ≤ more seat) → SeenFits lasts word
    → SeenFits more word
seen-more lasts more word rise seen = record {
  grant = seen.grant;
  names = seen.names;
  made = le_trans seen.made (rise seen.grant.seat);
}

pub kind-same : (b other : Book) (u : ℕ) (kind : Kind) (h : Held) → other.classes (slab_of u) ≡ b.classes (slab_of u)
    → KindIs b u kind h → KindIs other u kind h
kind-same b other u kind Held.NotOut same is = is
kind-same b other u kind Held.Private same is = is
kind-same b other u kind Held.Listed same is = is
kind-same b other u kind (Held.Object gr) same is = is ∙ ap Kind.Slab (sym same)
kind-same b other u kind (Held.InHand t) same is = is
kind-same b other u kind (Held.Ready t x n) same is = is
kind-same b other u kind (Held.Large gr x n) same is = is

pub note-stays : (g : Shadow) (s : Core) (h : Shadow) (r : Core) (n : Note) → NoReturn g s h r → NoteFits g s n
    → NoteFits h r n
note-stays g s h r n stays fits = record {
  seen = seen-more s.lasts r.lasts n.mark stays.lasts fits.seen;
  kind = λ gr names held.
      let a = stays.again n.unit gr (made_of s.lasts n.mark fits.seen gr names) held in
      subst (KindIs r.book n.unit n.kind) (sym a.0)
      (kind-same s.book r.book n.unit n.kind (g.held n.unit) a.1
      (fits.kind gr names (ap granted_in (sym a.0) ∙ held)));
}

pub notes-stay : (g : Shadow) (s : Core) (h : Shadow) (r : Core) (ns : List Note) → NoReturn g s h r
    → NotesFit g s ns → NotesFit h r ns
notes-stay g s h r [] stays fits = fits
notes-stay g s h r (n ∷ ns) stays (fit, fits) = (note-stays g s h r n stays fit, notes-stay g s h r ns stays fits)

large-stays : (g : Shadow) (s : Core) (h : Shadow) (r : Core) (u word : ℕ) → NoReturn g s h r → SeenFits s.lasts word
    → IfHeld g.held u word IsLarge → IfHeld h.held u word IsLarge
large-stays g s h r u word stays seen fits gr names held =
    let a = stays.again u gr (made_of s.lasts word seen gr names) held in
    subst IsLarge (sym a.0) (fits gr names (ap granted_in (sym a.0) ∙ held))

look-stays : (g : Shadow) (s : Core) (h : Shadow) (r : Core) (at : LookAt) → NoReturn g s h r → LookFits g s at
    → LookFits h r at
look-stays g s h r LookAt.Region stays fits = fits
look-stays g s h r (LookAt.Mark u) stays fits = fits
look-stays g s h r (LookAt.Again u m) stays fits = λ gr names. le_trans (fits gr names) (stays.lasts gr.seat)
look-stays g s h r (LookAt.Kind u m) stays fits = seen-more s.lasts r.lasts m stays.lasts fits
look-stays g s h r (LookAt.Odd u m) stays (seen, large) =
    (seen-more s.lasts r.lasts m stays.lasts seen, large-stays g s h r u m stays seen large)
look-stays g s h r (LookAt.Base u m kind) stays fits = note-stays g s h r (note_of u m kind) stays fits
look-stays g s h r (LookAt.Second u m kind base) stays fits = note-stays g s h r (note_of u m kind) stays fits
look-stays g s h r (LookAt.Gone m) stays fits = fits

end-stays : (g : Shadow) (s : Core) (h : Shadow) (r : Core) (seat unit : ℕ) (head : Option ℕ) (kind : Kind) (at : EndAt)
    → Rely seat g s h r → EndFits s.book seat unit head kind at → EndFits r.book seat unit head kind at
end-stays g s h r seat unit head kind EndAt.Own rely (is, by, now) =
    let same = rely.slabs (slab_of unit) by in
    (is, same.keeper ∙ by, now ∙ ap (λ (q : HeapSlab). q.head) (sym same.same))
end-stays g s h r seat unit head kind EndAt.Other rely (small, not) =
    (small, λ is. rely.strange (slab_of unit) (not is))
end-stays g s h r seat unit head kind EndAt.Large rely is = is
end-stays g s h r seat unit head kind (EndAt.Lost mark) rely is = is

post-stays : (links other : ℕ → Link) (unit : ℕ) (at : PostAt) → other unit ≡ links unit → PostFits links unit at
    → PostFits other unit at
post-stays links other unit (PostAt.Push PushAt.Look) same fits = fits
post-stays links other unit (PostAt.Push (PushAt.Link found)) same fits = fits
post-stays links other unit (PostAt.Push (PushAt.Exchange found)) same fits = same ∙ fits

-- the newest private object of a slab is the seat's
pub head-mine : (k : Key) (g : Shadow) (s : Core) (seat e u : ℕ) → ObjectsGood k g s
    → s.book.keeper e ≡ Keeper.By seat → s.book.heads e ≡ Some u
    → (g.held u ≡ Held.Private) × (slab_of u ≡ e)
head-mine k g s seat e u good by head =
    let chain = subst (λ o. IsChain (links_in s.marks) (head_link o) (g.privates e) 0) head (good.private_chains e) in
    let starts = (chain-starts (links_in s.marks) u (g.privates e) 0 chain).0 in
    let there = ap (tally u) starts in
    let here = tally-here u (tail_of (g.privates e)) in
    private-there g.held g.privates g.taken e u good.privates_once (omega arith)

pub task-stays : (k : Key) (g : Shadow) (s : Core) (h : Shadow) (r : Core) (seat : ℕ) (task : Task)
    → ObjectsGood k g s → Rely seat g s h r → NoReturn g s h r → TaskFits k g s seat task → TaskFits k h r seat task
task-stays k g s h r seat Away good rely stays fits = fits
task-stays k g s h r seat (Looking call at) good rely stays fits = look-stays g s h r at stays fits
task-stays k g s h r seat (Ending call kind at) good rely stays (is, note, end) = (
  is,
  note-stays g s h r (note_of call.unit call.mark kind) stays note,
  end-stays g s h r seat call.unit call.head kind at rely end,
)
task-stays k g s h r seat (Posting call at) good rely stays (slab, held, post) =
    let same = rely.mine call.unit (hand held) in (
      slab,
      same.1 ∙ held,
      post-stays (links_in s.marks) (links_in r.marks) call.unit at (ap mark_link same.0) post,
    )
task-stays k g s h r seat (Joining slab at) good rely stays by = (rely.slabs slab by).keeper ∙ by
task-stays k g s h r seat (Reading slab head) good rely stays (by, is, low) =
    let same = rely.slabs slab by in let last = rely.lasts in
    (same.keeper ∙ by, ap (λ (q : HeapSlab). q.head) same.same ∙ is, omega arith)
task-stays k g s h r seat (Taking slab head below) good rely stays (by, is, low, leads) =
    let same = rely.slabs slab by in
    let last = rely.lasts in
    let at = head-mine k g s seat slab head good by is in
    let mine = rely.mine head (private at.0 (ap s.book.keeper at.1 ∙ by)) in (
      same.keeper ∙ by,
      ap (λ (q : HeapSlab). q.head) same.same ∙ is,
      omega arith,
      ap mark_link mine.0 ∙ leads,
    )
task-stays k g s h r seat (Resting slab unit) good rely stays (by, is, low, left, at) =
    let same = rely.slabs slab by in
    let last = rely.lasts in
    let handed = ap (λ (q : HeapSlab). q.handed) same.same in
    let class = ap (λ (q : HeapSlab). q.class) same.same in
    let most = ap class_objects class in (
      same.keeper ∙ by,
      ap (λ (q : HeapSlab). q.head) same.same ∙ is,
      omega arith,
      omega arith,
      at ∙ ap (λ (q : HeapSlab). unit_of slab q.class q.handed) (sym same.same),
    )
task-stays k g s h r seat (Blocking unit first granules) good rely stays (held, low) =
    let same = rely.mine unit (ready first granules held) in let last = rely.lasts in (same.1 ∙ held, omega arith)

filled-stays : (k : Key) (g : Shadow) (s : Core) (h : Shadow) (r : Core) (seat e first : ℕ) → ObjectsGood k g s
    → Rely seat g s h r → s.book.keeper e ≡ Keeper.By seat → IsFilledChain (links_in s.marks) first (g.taken e)
    → IsFilledChain (links_in r.marks) first (g.taken e)
filled-stays k g s h r seat e first good rely by (end, chain) = (
  end,
  leads-same (links_in s.marks) (links_in r.marks)
      (To first) (g.taken e) (Ends end)
      (λ u some. let at = private-there g.held g.privates g.taken e u good.privates_once (omega arith) in
      ap mark_link (rely.mine u (private at.0 (ap s.book.keeper at.1 ∙ by))).0) chain,
)

join-stays : (k : Key) (g : Shadow) (s : Core) (h : Shadow) (r : Core) (seat e : ℕ) (at : JoinAt) → ObjectsGood k g s
    → Rely seat g s h r → s.book.keeper e ≡ Keeper.By seat → JoinFits (links_in s.marks) at (g.taken e)
    → JoinFits (links_in r.marks) at (g.taken e)
join-stays k g s h r seat e JoinAt.Take good rely by fits = fits
join-stays k g s h r seat e (JoinAt.Walk first at count) good rely by (chain, rest) =
    (filled-stays k g s h r seat e first good rely by chain, rest)
join-stays k g s h r seat e (JoinAt.Tie first last count) good rely by (chain, rest) =
    (filled-stays k g s h r seat e first good rely by chain, rest)

pub taken-stays : (k : Key) (g : Shadow) (s : Core) (h : Shadow) (r : Core) (seat e : ℕ) (task : Task)
    → ObjectsGood k g s → Rely seat g s h r → s.book.keeper e ≡ Keeper.By seat
    → TakenFits (links_in s.marks) task e (g.taken e) → TakenFits (links_in r.marks) task e (g.taken e)
taken-stays k g s h r seat e Away good rely by fits = fits
taken-stays k g s h r seat e (Looking call at) good rely by fits = fits
taken-stays k g s h r seat e (Ending call kind at) good rely by fits = fits
taken-stays k g s h r seat e (Posting call at) good rely by fits = fits
taken-stays k g s h r seat e (Joining slab at) good rely by fits =
    (fits.0, λ is. join-stays k g s h r seat e at good rely by (fits.1 is))
taken-stays k g s h r seat e (Reading slab head) good rely by fits = fits
taken-stays k g s h r seat e (Taking slab head below) good rely by fits = fits
taken-stays k g s h r seat e (Resting slab unit) good rely by fits = fits
taken-stays k g s h r seat e (Blocking unit first granules) good rely by fits = fits

-- the parts on seats, after a step of one of them
pub record SeatsFit (k : Key) (h : Shadow) (r : Core) : Type 0 where
  pub kept : (e seat : ℕ) → r.book.keeper e ≡ Keeper.By seat
      → TakenFits (links_in r.marks) (r.tasks seat) e (h.taken e)
  pub tasks_fit : (seat : ℕ) → TaskFits k h r seat (r.tasks seat)
  pub notes_fit : (seat : ℕ) → NotesFit h r (r.notes seat)
  pub hands_fit : HandsFit h.held r.tasks

pub seats_keep : (k : Key) (t : ℕ) (task : Task) (g : Shadow) (s : Core) (h : Shadow) (r : Core) → ObjectsGood k g s
    → TurnFits k t task g s h r → SeatsFit k h r
seats_keep k t task g s h r good turn = record {
  kept = λ e o by. equal_or o t
      (λ same. subst (λ x. TakenFits (links_in r.marks) (r.tasks x) e (h.taken e)) (sym same)
      (subst (λ q. TakenFits (links_in r.marks) q e (h.taken e)) (sym turn.stands)
      (turn.taken e (by ∙ ap Keeper.By same))))
      (λ ne. others e o ne by (is_by (s.book.keeper e) o));
  tasks_fit = λ o. equal_or o t
      (λ same. subst (λ x. TaskFits k h r x (r.tasks x)) (sym same)
      (subst (TaskFits k h r t) (sym turn.stands) turn.task'))
      (λ ne. let rely = turn.others o ne in subst (TaskFits k h r o) (sym rely.task)
      (task-stays k g s h r o (s.tasks o) good rely turn.no_return (good.tasks_fit o)));
  notes_fit = λ o. equal_or o t
      (λ same. subst (λ x. NotesFit h r (r.notes x)) (sym same) turn.notes)
      (λ ne. subst (NotesFit h r) (sym (turn.kept_notes o ne))
      (notes-stay g s h r (s.notes o) turn.no_return (good.notes_fit o)));
  hands_fit = λ u o held. equal_or o t
      (λ same. subst (λ x. IsInHand (r.tasks x) u) (sym same) (subst (λ q. IsInHand q u) (sym turn.stands)
      (turn.hand u (held ∙ ap Held.InHand same))))
      (λ ne. let rely = turn.others o ne in subst (λ q. IsInHand q u) (sym rely.task)
      (good.hands_fit u o (rely.no_more u held)));
}
  where
    others : (e o : ℕ) → o ≢ t → r.book.keeper e ≡ Keeper.By o
        → (s.book.keeper e ≡ Keeper.By o) ⊎ (s.book.keeper e ≢ Keeper.By o)
        → TakenFits (links_in r.marks) (r.tasks o) e (h.taken e)
    others e o ne by (inl was) =
        let rely = turn.others o ne in
        subst (λ q. TakenFits (links_in r.marks) q e (h.taken e)) (sym rely.task)
        (subst (TakenFits (links_in r.marks) (s.tasks o) e) (sym (rely.slabs e was).taken)
        (taken-stays k g s h r o e (s.tasks o) good rely was (good.taken_fit.kept e o was)))
    others e o ne by (inr not) = absurd ((turn.others o ne).strange e not by)

-- where a seat's task stands, and what holds there
pub fits_at : (k : Key) (g : Shadow) (s : Core) (t : ℕ) (task : Task) → s.tasks t ≡ task → ObjectsGood k g s
    → TaskFits k g s t task
fits_at k g s t task is good = subst (TaskFits k g s t) is (good.tasks_fit t)

pub taken_at : (k : Key) (g : Shadow) (s : Core) (t : ℕ) (task : Task) → s.tasks t ≡ task → ObjectsGood k g s → (e : ℕ)
    → s.book.keeper e ≡ Keeper.By t → TakenFits (links_in s.marks) task e (g.taken e)
taken_at k g s t task is good e by =
    subst (λ q. TakenFits (links_in s.marks) q e (g.taken e)) is (good.taken_fit.kept e t by)

pub hand_at : (k : Key) (g : Shadow) (s : Core) (t : ℕ) (task : Task) → s.tasks t ≡ task → ObjectsGood k g s → (u : ℕ)
    → g.held u ≡ Held.InHand t → IsInHand task u
hand_at k g s t task is good u held = subst (λ q. IsInHand q u) is (good.hands_fit u t held)
