-- Objects by name, what the wrong definitions come to, and the exchanges of a reset.
use Rattle.std.proofs.Common.{◌≡◌, ◌≢◌, ℕ, ◌+◌, ◌-◌, ◌*◌, ◌/◌, ◌<◌, ◌≤◌, cond, eqb, Option, Some, None, List, [], ◌∷◌, length}
use Rattle.std.proofs.Common.{refl, sym, ap, subst, arith, ◌∙◌}
use Rattle.std.proofs.lemmas.Bool.Decides.{nat_tests}
use Rattle.pool_types.specs.declared.values.Grant.{Grant}
use Rattle.pool_words.specs.declared.words.Key.{Key}
use Rattle.pool_words.specs.Words.{marks}
use Rattle.size_classes.specs.Classes.{class_size, class_objects}
use Rattle.word_codes.specs.declared.marks.Mark.{Mark}
use Rattle.word_codes.specs.declared.publics.Public.{Public}
use Rattle.word_codes.specs.declared.kinds.Kind.{Kind}
use Rattle.word_codes.specs.Marks.{mark_of}
use Rattle.word_codes.specs.Places.{granule_of}
use Rattle.word_codes.specs.Publics.{public_of}
use Rattle.heap_slabs.specs.Records.{unit_of}
use Rattle.word_laws.specs.Memory.{put}
use Rattle.word_laws.proofs.CallerLemmas.{equal_or}
use Rattle.chain_laws.specs.Chains.{Link, IsChain, tally}
use Rattle.chain_laws.specs.Named.{ten_key}
use Rattle.slab_laws.specs.Books.{Keeper, Book, IsThere, record_of}
use Rattle.slab_laws.specs.OneSlab.{IsHanded}
use Rattle.slab_laws.specs.Heaps.{slab_of, SlabFits, NoneFits, KindFits}
use Rattle.slab_laws.proofs.CallerLemmas.{put-other, each, both, unit-at}
use Rattle.object_laws.specs.Objects.{Held, granted_in, IsOut, Core, core_in, links_in, head_link}
use Rattle.object_laws.specs.Objects.{public_link_to}
use Rattle.object_laws.specs.Objects.Task.{Away}
use Rattle.object_laws.specs.Parts.{MarkFits, LargeFits, is_private, is_listed, in_slab, IsPublicChain, TakenFits, KindIs}
use Rattle.object_laws.specs.Parts.{IsNoGrant, IsHandMark, SeenFits, IsLargeKind, TaskFits, IsInHand}
use Rattle.object_laws.specs.Named.{at_units, one_grant, named_objects, posted_call, posting, tying, objects_book, named_words}
use Rattle.object_laws.specs.Laws.{NamedObjectsStand, ResetsEndGrants, GrantsFoundMayEnd}
use Rattle.object_laws.specs.Wrong.{StrangersFreesAreWrong, StoredPushesAreWrong, LooseJoinsAreWrong}

-- what is so at each of the units that are named, and elsewhere
record Else (u : ℕ) : Type 0 where
  a : 4088 ≢ u
  b : 4080 ≢ u
  c : 4072 ≢ u
  d : 4064 ≢ u
  e : 4056 ≢ u

units : (P : ℕ → Type 0) → P 4088 → P 4080 → P 4072 → P 4064 → P 4056 → ((u : ℕ) → Else u → P u) → (u : ℕ) → P u
units P one two three four five rest u = equal_or 4088 u (λ s. subst P s one) (λ a. equal_or 4080 u (λ s. subst P s two)
    (λ b. equal_or 4072 u (λ s. subst P s three) (λ c. equal_or 4064 u (λ s. subst P s four)
    (λ d. equal_or 4056 u (λ s. subst P s five) (λ e. rest u (record { a = a; b = b; c = c; d = d; e = e }))))))

units_else : {A : Type 0} (none a b c d e : A) (u : ℕ) → Else u → at_units none a b c d e u ≡ none
units_else none a b c d e u far =
    put-other (put (put (put (put (λ u. none) 4088 a) 4080 b) 4072 c) 4064 d) 4056 e u (λ s. far.e (sym s))
    ∙ put-other (put (put (put (λ u. none) 4088 a) 4080 b) 4072 c) 4064 d u (λ s. far.d (sym s))
    ∙ put-other (put (put (λ u. none) 4088 a) 4080 b) 4072 c u (λ s. far.c (sym s))
    ∙ put-other (put (λ u. none) 4088 a) 4080 b u (λ s. far.b (sym s))
    ∙ put-other (λ u. none) 4088 a u (λ s. far.a (sym s))

held_else : (u : ℕ) → Else u → named_objects.held u ≡ Held.NotOut
held_else = units_else Held.NotOut Held.Private Held.Listed (Held.Object one_grant) Held.Private (Held.InHand 1)

mark_else : (u : ℕ) → Else u → named_words.marks u ≡ Mark.Unmarked
mark_else = units_else Mark.Unmarked Mark.End Mark.End (Mark.Granted one_grant) Mark.End Mark.End

keeper_else : (e : ℕ) → e ≢ 2 → named_words.book.keeper e ≡ Keeper.Nobody
keeper_else = put-other (λ e. Keeper.Nobody) 2 (Keeper.By 0)

-- where the five objects begin
size_four : class_size 4 ≡ 64
unfolding class_size
size_four = refl

objects_four : class_objects 4 ≡ 254
unfolding class_objects class_size
objects_four = refl

unit_is : (i : ℕ) → i < 5 → unit_of 2 4 i ≡ 4096 - 8 * (i + 1)
unit_is i low =
    let most = objects_four in
    let at = unit-at 2 4 i (omega arith) (omega arith) in
    let eight : class_size 4 / 8 ≡ 8 = ap (λ n. n / 8) size_four in
    let m = ap (λ n. 2 * 1024 + (2048 - (i + 1) * n)) eight in omega arith

handed_is : (i u : ℕ) → i < 5 → u ≡ 4096 - 8 * (i + 1) → IsHanded (record_of objects_book 2) u
handed_is i u low is = (i, low, is ∙ sym (unit_is i low))

only_granted : (u : ℕ) (grant : Grant) → granted_in (named_objects.held u) ≡ Some grant
    → (u ≡ 4072) × (grant ≡ one_grant)
only_granted = units (λ u. (grant : Grant) → granted_in (named_objects.held u) ≡ Some grant
    → (u ≡ 4072) × (grant ≡ one_grant)) (λ gr z. absurd (cc)) (λ gr z. absurd (cc)) (λ gr z. (refl, cc))
    (λ gr z. absurd (cc)) (λ gr z. absurd (cc))
    (λ u far gr z. absurd (let h = ap granted_in (held_else u far) in cc))

public_none : public_of 0 ≡ Public.Null
unfolding public_of
public_none = refl

there_two : (e : ℕ) → IsThere (named_words.book.keeper e) → e ≡ 2
there_two e is = equal_or e 2 (λ s. s) (λ ne. absurd (subst IsThere (keeper_else e ne) is))

two_fits : SlabFits ten_key objects_book 2
two_fits = record {
  place = record { even = refl; inside = omega arith };
  class = omega arith;
  record' = record {
    few = omega arith;
    handed = let most = objects_four in omega arith;
    count = omega arith;
    head = (handed_is 0 4088 (omega arith) refl, omega arith);
  };
}

out_unit : (i : ℕ) → i < 5 → IsOut (named_objects.held (unit_of 2 4 i))
out_unit i low = subst (λ u. IsOut (named_objects.held u)) (sym (unit_is i low)) (by i low)
  where
    at : (i n : ℕ) → i ≡ n → IsOut (named_objects.held (4096 - 8 * (n + 1)))
        → IsOut (named_objects.held (4096 - 8 * (i + 1)))
    at i n is out = subst (λ x. IsOut (named_objects.held (4096 - 8 * (x + 1)))) (sym is) out

    by : (i : ℕ) → i < 5 → IsOut (named_objects.held (4096 - 8 * (i + 1)))
    by i low = equal_or i 0 (λ s. at i 0 s tt) (λ a. equal_or i 1 (λ s. at i 1 s tt) (λ b. equal_or i 2
        (λ s. at i 2 s tt) (λ c. equal_or i 3 (λ s. at i 3 s tt) (λ d. at i 4 (omega arith) tt))))

pub named_objects_stand : NamedObjectsStand
named_objects_stand = record {
  book = record {
    span = omega arith;
    there = λ e is. subst (SlabFits ten_key objects_book) (sym (there_two e is)) two_fits;
    absent = λ e none. absent e (λ s. none (subst (λ x. IsThere (named_words.book.keeper x)) (sym s) tt));
  };
  kinds' = both (λ e q d. KindFits q 4 d) (λ e. Keeper.Nobody) (λ e. Kind.Nothing) 2 (Keeper.By 0) (Kind.Slab 4)
      (λ e _. tt) refl;
  marks_fit = units (λ u. MarkFits (named_objects.held u) (named_words.marks u)) tt tt refl tt tt
      (λ u far. subst (λ q. MarkFits q (named_words.marks u)) (sym (held_else u far))
      (subst (MarkFits Held.NotOut) (sym (mark_else u far)) tt));
  grants = record {
    apart = λ u v gr a b. (only_granted u gr a).0 ∙ sym (only_granted v gr b).0;
    least = λ u gr a. subst (λ (x : Grant). x.number ≤ named_words.lasts x.seat) (sym (only_granted u gr a).1) (omega arith);
    gone = λ u gr some. absurd (omega arith);
    past = λ seat number some. absurd (omega arith);
    once = λ seat number. omega arith;
  };
  out_fits = record {
    in_slab = units (λ u. IsOut (named_objects.held u)
        → IsThere (named_words.book.keeper (slab_of u)) × IsHanded (record_of objects_book (slab_of u)) u)
        (λ _. (tt, handed_is 0 4088 (omega arith) refl)) (λ _. (tt, handed_is 1 4080 (omega arith) refl))
        (λ _. (tt, handed_is 2 4072 (omega arith) refl)) (λ _. (tt, handed_is 3 4064 (omega arith) refl))
        (λ _. (tt, handed_is 4 4056 (omega arith) refl))
        (λ u far out. absurd (subst IsOut (held_else u far) out));
    out = λ e i low. equal_or e 2
        (λ s. subst (λ x. IsOut (named_objects.held (unit_of x 4 i))) (sym s)
        (out_unit i (let h = ap objects_book.handed s in omega arith)))
        (λ ne. absurd (let z = put-other {A = ℕ} (λ e. 0) 2 5 e ne in omega arith));
  };
  larges = units (λ u. LargeFits ten_key u (named_words.book.keeper (slab_of u)) (named_words.kinds (granule_of u))
      (named_objects.held u)) tt tt tt tt tt
      (λ u far. subst (λ q. LargeFits ten_key u (named_words.book.keeper (slab_of u))
      (named_words.kinds (granule_of u)) q) (sym (held_else u far)) tt);
  privates_once = λ e. units (λ u. tally u (named_objects.privates e) + tally u (named_objects.taken e)
      ≡ in_slab e u (is_private (named_objects.held u))) (grind (arith, nat_tests)) (grind (arith, nat_tests))
      (grind (arith, nat_tests)) (grind (arith, nat_tests)) (grind (arith, nat_tests))
      (λ u far. let h = ap is_private (held_else u far) in nothing e u far h);
  listed_once = λ e. units (λ u. tally u (named_objects.listed e) ≡ in_slab e u (is_listed (named_objects.held u)))
      (grind (arith, nat_tests)) (grind (arith, nat_tests)) (grind (arith, nat_tests)) (grind (arith, nat_tests))
      (grind (arith, nat_tests)) (λ u far. let h = ap is_listed (held_else u far) in unlisted e u far h);
  private_chains = both (λ e o us. IsChain (links_in named_words.marks) (head_link o) us 0) (λ e. None) (λ e. []) 2
      (Some 4088) (4088 ∷ []) (λ e _. refl) (refl, refl);
  public_chains = both (λ e p us. IsPublicChain (links_in named_words.marks) p us) (λ e. Public.Null) (λ e. []) 2
      (Public.Filled 4080) (4080 ∷ []) (λ e _. refl) (0, (refl, refl));
  counts_fit = λ e. equal_or e 2
      (λ s. subst (λ x. named_words.book.counts x + length (named_objects.privates x) ≡ named_words.book.handed x) (sym s)
      refl)
      (λ ne. let a = put-other {A = ℕ} (λ e. 0) 2 4 e ne in let b = put-other {A = ℕ} (λ e. 0) 2 5 e ne in
      let c = ap length (put-other {A = List ℕ} (λ e. []) 2 (4088 ∷ []) e ne) in omega arith);
  taken_fit = record {
    kept = λ e seat by. let is = there_two e (subst IsThere (sym by) tt) in
        subst (λ x. TakenFits (links_in named_words.marks) (named_words.tasks seat) x (named_objects.taken x)) (sym is)
        (subst (λ x. TakenFits (links_in named_words.marks) (named_words.tasks x) 2 (4064 ∷ []))
        (let q : Keeper.By 0 ≡ Keeper.By seat = ap named_words.book.keeper (sym is) ∙ by in
        let w : ◌≡◌ {A = ℕ} 0 seat = cc in w) ((λ ne. absurd (ne refl)), (λ _. ((0, (refl, refl)), ([], refl, refl)))));
    else = λ e none. put-other {A = List ℕ} (λ e. []) 2 (4064 ∷ []) e (λ s. none 0 (ap named_words.book.keeper s));
  };
  tasks_fit = each (λ seat q. TaskFits ten_key named_objects named_words seat q) (put (λ seat. Away) 0 tying) 1 posting
      (λ seat _. each (λ seat q. TaskFits ten_key named_objects named_words seat q) (λ seat. Away) 0 tying
      (λ seat _. tt) refl seat) (refl, refl, sym (ap public_link_to public_none));
  notes_fit = λ seat. tt;
  hands_fit = units (λ u. (seat : ℕ) → named_objects.held u ≡ Held.InHand seat → IsInHand (named_words.tasks seat) u)
      (λ seat z. absurd (cc)) (λ seat z. absurd (cc)) (λ seat z. absurd (cc)) (λ seat z. absurd (cc))
      (λ seat z. let q : ◌≡◌ {A = ℕ} 1 seat = cc in subst (λ x. IsInHand (named_words.tasks x) 4056) q refl)
      (λ u far seat z. absurd (let h = held_else u far in cc));
}
  where
    absent : (e : ℕ) → e ≢ 2 → NoneFits objects_book e
    absent e ne = record {
      handed = put-other {A = ℕ} (λ e. 0) 2 5 e ne;
      count = put-other {A = ℕ} (λ e. 0) 2 4 e ne;
      head = put-other {A = Option ℕ} (λ e. None) 2 (Some 4088) e ne;
    }

    nothing : (e u : ℕ) → Else u → is_private (named_objects.held u) ≡ 0
        → tally u (named_objects.privates e) + tally u (named_objects.taken e)
        ≡ in_slab e u (is_private (named_objects.held u))
    nothing e u far h =
        let a : tally u (named_objects.privates e) ≡ 0 = each (λ e us. tally u us ≡ 0) (λ e. []) 2 (4088 ∷ [])
        (λ e _. refl) (let n = far.a in grind (arith, nat_tests)) e in
        let b : tally u (named_objects.taken e) ≡ 0 = each (λ e us. tally u us ≡ 0) (λ e. []) 2 (4064 ∷ [])
        (λ e _. refl) (let n = far.d in grind (arith, nat_tests)) e in
        let c : cond (eqb (slab_of u) e) (is_private (named_objects.held u)) 0 ≡ 0 = grind (arith, nat_tests) in
        omega arith

    unlisted : (e u : ℕ) → Else u → is_listed (named_objects.held u) ≡ 0
        → tally u (named_objects.listed e) ≡ in_slab e u (is_listed (named_objects.held u))
    unlisted e u far h =
        let a : tally u (named_objects.listed e) ≡ 0 = each (λ e us. tally u us ≡ 0) (λ e. []) 2 (4080 ∷ [])
        (λ e _. refl) (let n = far.b in grind (arith, nat_tests)) e in
        let c : cond (eqb (slab_of u) e) (is_listed (named_objects.held u)) 0 ≡ 0 = grind (arith, nat_tests) in
        omega arith

-- wrong definitions
pub strangers_frees_are_wrong : StrangersFreesAreWrong
strangers_frees_are_wrong frees =
    let after = frees ten_key 4072 one_grant Mark.End named_objects named_words refl named_objects_stand in
    let clash : ◌≡◌ {A = Link} (Link.To 4088) (Link.To 4072) = (after.private_chains 2).0 in
    let same : ◌≡◌ {A = ℕ} 4088 4072 = cc in omega arith

pub stored_pushes_are_wrong : StoredPushesAreWrong
stored_pushes_are_wrong pushes =
    let after = pushes ten_key 1 posted_call 0 named_objects named_words refl named_objects_stand in
    let chain = (after.public_chains 2).1 in
    let clash : ◌≡◌ {A = Link} (Link.Ends 0) (Link.To 4080) = chain.1.0 in cc

pub loose_joins_are_wrong : LooseJoinsAreWrong
loose_joins_are_wrong joins =
    let after = joins ten_key 0 2 4064 4064 1 named_objects named_words refl named_objects_stand in
    let clash : ◌≡◌ {A = Link} (Link.Ends 0) (Link.To 4088) = (after.private_chains 2).1.0 in cc

-- a reset's exchanges
pub resets_end_grants : ResetsEndGrants
resets_end_grants r c granule object line mark b = record { strips = refl; evicts = refl }

-- an object whose mark was found granted
abbrev IsHeldAs : Grant → Held → Type 0
IsHeldAs grant held = granted_in held ≡ Some grant

found_held : (h : Held) (w : Mark) (grant : Grant) → MarkFits h w → w ≡ Mark.Granted grant → IsHeldAs grant h
found_held Held.NotOut w grant fits is = absurd (subst IsNoGrant is fits)
found_held Held.Private w grant fits is = absurd (subst IsNoGrant is fits)
found_held Held.Listed w grant fits is = absurd (subst IsNoGrant is fits)
found_held (Held.Object gr) w grant fits is = (let q : Mark.Granted gr ≡ Mark.Granted grant = sym fits ∙ is in cc)
found_held (Held.InHand t) w grant fits is = absurd (subst (IsHandMark t) is fits)
found_held (Held.Ready t f n) w grant fits is = absurd (subst IsNoGrant is fits)
found_held (Held.Large gr f n) w grant fits is = (let q : Mark.Granted gr ≡ Mark.Granted grant = sym fits ∙ is in cc)

-- what its kind is, by whether it lies in a slab
slab_kind : (k : Key) (u : ℕ) (b : Book) (kind : Kind) (h : Held) → IsThere (b.keeper (slab_of u))
    → LargeFits k u (b.keeper (slab_of u)) kind h → KindIs b u (Kind.Slab (b.classes (slab_of u))) h
slab_kind k u b kind Held.NotOut there fits = tt
slab_kind k u b kind Held.Private there fits = tt
slab_kind k u b kind Held.Listed there fits = tt
slab_kind k u b kind (Held.Object grant) there fits = refl
slab_kind k u b kind (Held.InHand t) there fits = tt
slab_kind k u b kind (Held.Ready t f n) there fits = tt
slab_kind k u b kind (Held.Large grant f n) there fits = absurd (fits.0 there)

large_kind : (k : Key) (u : ℕ) (b : Book) (kind : Kind) (h : Held) (grant : Grant)
    → (IsThere (b.keeper (slab_of u)) → ⊥) → (IsOut h → IsThere (b.keeper (slab_of u)))
    → LargeFits k u (b.keeper (slab_of u)) kind h → IsHeldAs grant h → KindIs b u kind h × IsLargeKind kind
large_kind k u b kind Held.NotOut grant none out fits is = absurd (cc)
large_kind k u b kind Held.Private grant none out fits is = absurd (cc)
large_kind k u b kind Held.Listed grant none out fits is = absurd (cc)
large_kind k u b kind (Held.Object gr) grant none out fits is = absurd (none (out tt))
large_kind k u b kind (Held.InHand t) grant none out fits is = absurd (cc)
large_kind k u b kind (Held.Ready t f n) grant none out fits is = absurd (cc)
large_kind k u b kind (Held.Large gr f n) grant none out fits is =
    (fits.1, subst IsLargeKind (sym fits.1) tt)

pub grants_found_may_end : GrantsFoundMayEnd
grants_found_may_end k g m l t u number grant good found = record {
  own = λ by. let there : IsThere (l.book.keeper (slab_of u)) = subst IsThere (sym by) tt in (
    refl,
    record {
      seen = seen;
      kind = λ gr _ _. slab_kind k u l.book (s.kinds (granule_of u)) (g.held u) there (good.larges u);
    },
    (tt, by, refl),
  );
  large = λ none. let is = large_kind k u l.book (s.kinds (granule_of u)) (g.held u) grant none
      (λ out. (good.out_fits.in_slab u out).0) (good.larges u) held in
      (refl, record { seen = seen; kind = λ gr _ _. is.0 }, is.1);
}
  where
    s : Core
    s = core_in m l

    held : granted_in (g.held u) ≡ Some grant
    held = found_held (g.held u) (mark_of (m marks u)) grant (good.marks_fit u) found

    seen : SeenFits l.lasts (m marks u)
    seen = record { grant = grant; names = found; made = good.grants.least u grant held }
