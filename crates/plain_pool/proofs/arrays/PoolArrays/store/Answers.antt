use Rattle.std.proofs.Common.{◌≡◌, ◌++◌, ◌∷◌, [], ℕ, length, sym, ap, subst, refl, ◌∙◌}
use Rattle.plain_lists.specs.Lists.{Lists}
use Rattle.plain_pool.specs.declared.arrays.PoolArrays.{PoolArrays}
use Rattle.plain_pool.specs.Bins.{AreBins}
use Rattle.plain_pool.specs.Slabs.{AreSlabs}
use Rattle.plain_pool.specs.Pool.{Has}
use Rattle.std.proofs.lemmas.Bool.{eqb-true}
use Rattle.plain_pool.proofs.arrays.PoolArrays.store.Goals as goal

-- the pool once the slab was pushed
pushed : (pool new : PoolArrays) (lists : Lists) (index : ℕ) → Has pool lists → new.region ≡ pool.region → new.slabs ≡ pool.slabs → new.bins ≡ pool.bins → new.granted ≡ pool.granted → new.stored.items ≡ pool.stored.items ++ index ∷ []
    → Has new (record lists { stored = lists.stored ++ index ∷ [] })
pushed pool new lists index has region slabs bins granted items = record {
  region = region ∙ has.region;
  slabs = subst (λ s. AreSlabs s lists.slabs) (sym slabs) has.slabs;
  bins = subst (λ b. AreBins b lists.blocks) (sym bins) has.bins;
  stored = items ∙ ap (λ xs. xs ++ index ∷ []) has.stored;
  granted = granted ∙ has.granted;
}

pub trim-requires : goal.trim-requires
trim-requires c = let (lists, has, stored, few) = c.requires in (
  record lists { stored = lists.stored ++ c.args.index ∷ [] },
  pushed c.args.self.now (record c.args.self.now { stored = c.push.new.self }) lists c.args.index has refl refl refl refl c.push.ensures.items,
  stored,
  sym (ap length (c.push.ensures.items ∙ ap (λ xs. xs ++ c.args.index ∷ []) has.stored)) ∙ eqb-true (length c.push.new.self.items) 33 (sym c.is_full.ensures.value ∙ c.if-is_full.true),
)

pub returns-then-is_full : goal.returns-then-is_full
returns-then-is_full c lists has stored few =
    c.trim.ensures (record lists { stored = lists.stored ++ c.args.index ∷ [] }) (pushed c.args.self.now (record c.args.self.now { stored = c.push.new.self }) lists c.args.index has refl refl refl refl c.push.ensures.items) stored
    (sym (ap length (c.push.ensures.items ∙ ap (λ xs. xs ++ c.args.index ∷ []) has.stored)) ∙ eqb-true (length c.push.new.self.items) 33 (sym c.is_full.ensures.value ∙ c.if-is_full.true))
