-- Steps on words of one group, which are steps on other words to the other groups.
use Rattle.std.proofs.Common.{ℕ, arith, sym, ap, subst, ◌∙◌}
use Rattle.pool_words.specs.declared.words.Key.{Key}
use Rattle.pool_words.specs.declared.words.Word.{Word}
use Rattle.pool_words.specs.declared.actions.Action.{Action}
use Rattle.pool_words.specs.Words.{publics, kinds}
use Rattle.word_codes.specs.Kinds.{kind_of}
use Rattle.word_codes.specs.Marks.{mark_of}
use Rattle.word_codes.specs.Publics.{public_of}
use Rattle.word_laws.specs.Memory.{Mem, after}
use Rattle.guard_laws.specs.Steps as guards
use Rattle.slab_laws.specs.Steps as slabs
use Rattle.slab_laws.specs.Heaps.{Slabs, KindFits, SlabsGood}
use Rattle.slab_laws.proofs.CallerLemmas.{steps_keep_slabs}
use Rattle.object_laws.specs.Steps as objects
use Rattle.object_laws.specs.Objects.{Shadow, Locals, core_in}
use Rattle.object_laws.specs.Parts.{ObjectsGood}
use Rattle.use_laws.specs.Steps.{SameThings}

pub mark_no_guard : (u : ℕ) → guards.IsOtherWord (Word.Mark u)
mark_no_guard u = record { no_size = λ e. omega (arith, e); no_left = λ e. omega (arith, e) }

pub public_no_guard : (e : ℕ) → guards.IsOtherWord (Word.Public e)
public_no_guard e = record { no_size = λ e. omega (arith, e); no_left = λ e. omega (arith, e) }

pub kind_no_guard : (e : ℕ) → guards.IsOtherWord (Word.Kind e)
kind_no_guard e = record { no_size = λ e. omega (arith, e); no_left = λ e. omega (arith, e) }

pub header_no_guard : (e : ℕ) → guards.IsOtherWord (Word.Header e)
header_no_guard e = record { no_size = λ e. omega (arith, e); no_left = λ e. omega (arith, e) }

pub mark_no_slab : (u : ℕ) → slabs.IsOtherWord (Word.Mark u)
mark_no_slab u = record { no_kind = λ e. omega (arith, e); no_header = λ e. omega (arith, e) }

pub public_no_slab : (e : ℕ) → slabs.IsOtherWord (Word.Public e)
public_no_slab e = record { no_kind = λ e. omega (arith, e); no_header = λ e. omega (arith, e) }

pub header_no_object : (e : ℕ) → objects.IsOtherWord (Word.Header e)
header_no_object e = record {
  no_mark = λ e. omega (arith, e);
  no_public = λ e. omega (arith, e);
  no_kind = λ e. omega (arith, e);
}

pub slabs_same : (k : Key) (s : Slabs) (action : Action) → slabs.IsOtherAction action → SlabsGood k s
    → SlabsGood k (record s { mem = after k s.mem action })
slabs_same k s action other good =
    steps_keep_slabs k s (record s { mem = after k s.mem action }) good (slabs.SlabStep.others action other)

-- a step that leaves the words of slabs and of objects
pub slabs_as : (k : Key) (s : Slabs) (m' : Mem) → SameThings s.mem m' → SlabsGood k s
    → SlabsGood k (record s { mem = m' })
slabs_as k s m' same good = record {
  book = good.book;
  records = record {
    mine = good.records.mine;
    strange = good.records.strange;
    header = λ e left. ap (λ (f : ℕ → ℕ). f e) same.headers' ∙ good.records.header e left;
  };
  heaps = good.heaps;
  kinds' = λ e. subst (λ (f : ℕ → ℕ). KindFits (s.book.keeper e) (s.book.classes e) (kind_of (f e)))
      (sym same.kinds') (good.kinds' e);
  caches = good.caches;
  inside = good.inside;
}

pub objects_as : (k : Key) (g : Shadow) (m m' : Mem) (l : Locals) → SameThings m m' → ObjectsGood k g (core_in m l)
    → ObjectsGood k g (core_in m' l)
objects_as k g m m' l same good =
    subst (λ (f : ℕ → ℕ). ObjectsGood k g (record (core_in m l) {
      marks = λ x. mark_of (f x);
      publics = λ x. public_of (m' publics x);
      kinds = λ x. kind_of (m' kinds x);
    })) (sym same.marks')
    (subst (λ (f : ℕ → ℕ). ObjectsGood k g (record (core_in m l) {
      publics = λ x. public_of (f x);
      kinds = λ x. kind_of (m' kinds x);
    })) (sym same.publics')
    (subst (λ (f : ℕ → ℕ). ObjectsGood k g (record (core_in m l) { kinds = λ x. kind_of (f x) })) (sym same.kinds')
    good))
