-- Objects that are held: the marks that name a grant.
use Rattle.std.specs.Prelude.{ℕ, ◌-◌, ◌*◌, ◌%◌, Bool, cond, Option, Some, None}
use Rattle.pool_types.specs.declared.values.Leak.{Leak}
use Rattle.pool_types.specs.Geometry.{unit_bytes}
use Rattle.pool_types.specs.Limits.{region_numbers}
use Rattle.pool_types.specs.Sums.{capped}
use Rattle.pool_words.specs.declared.words.Word.{Word}
use Rattle.public_list.specs.Looking.{is_slab}
use Rattle.step_local.specs.Answers.{usable_of}
use Rattle.word_codes.specs.declared.kinds.Kind.{Kind}
use Rattle.word_codes.specs.declared.marks.Mark.{Mark}
use Rattle.word_codes.specs.declared.region_words.RegionWord.{RegionWord}
use Rattle.word_codes.specs.Kinds.{kind_of}
use Rattle.word_codes.specs.Places.{slab_granule}
use Rattle.word_codes.specs.RegionWords.{offset_of, first_unit}
use Rattle.word_totals.specs.Reading.{Still, load}

-- the kind at the even granule counts where it is a slab
abbrev pub kind_by : Kind → Kind → Kind
kind_by even own = cond (is_slab even) even own

-- what the units of a granule lie in
unfoldable pub granule_kind : Still → ℕ → Kind
granule_kind s granule =
    kind_by (kind_of (load s (Word.Kind (slab_granule granule)))) (kind_of (load s (Word.Kind granule)))

-- the bytes of a large object's block before the object; a small one has none
abbrev pub head_of : Kind → ℕ → ℕ
head_of (Kind.Large first granules) unit = capped ((unit - first_unit first) * unit_bytes)
head_of other unit = 0

-- the object that begins at a unit, if its mark names a grant
abbrev pub held_by : Still → RegionWord → Kind → ℕ → Mark → Option Leak
held_by s region kind unit (Mark.Granted grant) = Some (record {
  place = record { pool = s.key.pool; region = region.number % region_numbers; offset = offset_of region unit };
  usable = usable_of kind unit;
  grant = grant;
})
held_by s region kind unit other = None
