use Rattle.std.proofs.Common.{◌≡◌, ◌<◌, ◌+◌, ◌==◌, ◌/◌, refl, ℕ, List, drop, find, filter, length, slice_get, sym, subst, ap, ◌∙◌, arith}
use Rattle.std.proofs.lemmas.List.{length-map}
use Rattle.index_lists.specs.Lists.{members}
use Rattle.index_lists.proofs.CallerLemmas.{in_some}
use Rattle.plain_lists.specs.Lists.{OwnSlab, has_free}
use Rattle.plain_pool.specs.declared.slabs.Slabs.{Slabs}
use Rattle.plain_pool.specs.Slabs.{AreSlabs, rooms_of, room_of}
use Rattle.plain_pool.proofs.SlabCalls.{few_members, search_class, searched, search_ends, search_goes_on, own_past, drop_past, left_is_in}
use Rattle.plain_pool.proofs.slabs.Slabs.open_room.Goals as goal

-- the list of the class
listed : (arrays : Slabs) (slabs : List OwnSlab) (class list place : ℕ) → AreSlabs arrays slabs → list ≡ class → class < 26 → slice_get (members arrays.classes list) place ≡ slice_get (rooms_of class slabs) place
listed arrays slabs class list place fit same below = ap (λ l. slice_get (members arrays.classes l) place) same ∙ ap (λ xs. slice_get xs place) (fit.listed class below)

pub loop-place-init : goal.loop-place-init
loop-place-init c slabs fit kept = (
  c.first-next.ensures.place ∙ listed c.args.self.now slabs c.args.class c.from.result 0 fit (c.from.ensures ∙ c.index.ensures.exact) (subst (λ n. n < 26) c.index.ensures.exact c.index.ensures.below),
  sym (search_class c.args.class slabs),
)

pub has_free_at-requires : goal.has_free_at-requires
has_free_at-requires c = let (slabs, fit, kept) = c.requires in
    let (next, so_far) = c.loop-place.invariant slabs fit kept in
    let at = searched slabs c.args.class c.loop-place._place c.in-Some.room kept.placed (sym next ∙ c.in-Some.is) in
    (slabs, at.slab, fit, kept, at.is, at.class_is)

pub returns-then-has_free_at : goal.returns-then-has_free_at
returns-then-has_free_at c slabs fit kept =
    let (next, so_far) = c.loop-place.invariant slabs fit kept in
    let at = searched slabs c.args.class c.loop-place._place c.in-Some.room kept.placed (sym next ∙ c.in-Some.is) in
    search_ends slabs c.args.class c.loop-place._place at.slab (drop (c.loop-place._place + 1) (filter (λ (s : OwnSlab). s.class == c.args.class) slabs)) c.in-Some.room at.is
    (sym (c.has_free_at.ensures slabs at.slab fit kept at.is at.class_is) ∙ c.if-has_free_at.true) (so_far ∙ ap (find (has_free c.args.class)) at.behind)

pub following-next-requires : goal.following-next-requires
following-next-requires c = let (slabs, fit, kept) = c.requires in
    let (next, so_far) = c.loop-place.invariant slabs fit kept in
    let at = searched slabs c.args.class c.loop-place._place c.in-Some.room kept.placed (sym next ∙ c.in-Some.is) in
    in_some c.args.self.now.classes at.slab.class c.in-Some.room (left_is_in c.args.self.now.rooms.items c.args.self.now.classes c.args.self.now.marks.items slabs c.in-Some.room at.slab fit kept.placed at.is)

pub loop-place-preserved : goal.loop-place-preserved
loop-place-preserved c slabs fit kept =
    let (next, so_far) = c.loop-place.invariant slabs fit kept in
    let at = searched slabs c.args.class c.loop-place._place c.in-Some.room kept.placed (sym next ∙ c.in-Some.is) in
    let below = subst (λ n. n < 26) c.index.ensures.exact c.index.ensures.below in (
      c.following-next.ensures.place c.args.class c.loop-place._place (listed c.args.self.now slabs c.args.class c.args.class c.loop-place._place fit refl below ∙ sym next ∙ c.in-Some.is)
          ∙ listed c.args.self.now slabs c.args.class c.args.class (c.loop-place._place + 1) fit refl below,
      so_far ∙ ap (find (has_free c.args.class)) at.behind ∙ search_goes_on c.args.class at.slab (drop (c.loop-place._place + 1) (filter (λ (s : OwnSlab). s.class == c.args.class) slabs))
          (sym (c.has_free_at.ensures slabs at.slab fit kept at.is at.class_is) ∙ c.if-has_free_at.false),
    )

pub returns : goal.returns
returns c slabs fit kept =
    let (next, so_far) = c.loop-place.invariant slabs fit kept in
    let below = subst (λ n. n < 26) c.index.ensures.exact c.index.ensures.below in
    let few = few_members c.args.self.now.classes c.args.class c.indices-rooms.ensures.apart in
    let long = length-map (filter (λ (s : OwnSlab). s.class == c.args.class) slabs) (λ (s : OwnSlab). s.index / 2) in
    let same = ap length (fit.listed c.args.class below) in
    let past = c.loop-place-test.false in
    let count = c.indices-rooms.ensures.exact in
    sym (ap room_of (so_far ∙ ap (find (has_free c.args.class)) (drop_past (filter (λ (s : OwnSlab). s.class == c.args.class) slabs) c.loop-place._place (omega (arith, few, long, same, past, count)))))

pub returns-in_default : goal.returns-in_default
returns-in_default c slabs fit kept =
    let (next, so_far) = c.loop-place.invariant slabs fit kept in
    sym (ap room_of (so_far ∙ ap (find (has_free c.args.class)) (own_past (filter (λ (s : OwnSlab). s.class == c.args.class) slabs) c.loop-place._place (sym next ∙ c.in_default.is))))
