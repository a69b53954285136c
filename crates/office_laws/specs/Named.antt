-- A new pool's office, and a region by name: that of number 3, in its slot. Seat 1 is at the office, and is to give
-- back a region of which it has found the slot.
use Rattle.std.specs.Prelude.{false, Some, None}
use Rattle.pool_types.specs.declared.policy.RegionRec.{RegionRec}
use Rattle.pool_words.specs.declared.actions.OfficeJob.{OfficeJob}
use Rattle.word_codes.specs.declared.region_words.RegionWord.{RegionWord}
use Rattle.region_steps.specs.declared.office.OfficeAt.{OfficeAt}
use Rattle.region_steps.specs.Office.{region_word_of}
use Rattle.word_laws.specs.Memory.{put}
use Rattle.office_laws.specs.Regions.{Task, Shadow, Core}

abbrev pub no_regions : Shadow
no_regions = record { live = λ s. None; out = λ s. None; counter = 0 }

abbrev pub third : RegionRec
third = record {
  number = 3;
  first = 2;
  granules = 5;
  waste = 0;
  region = record { base = 16384; bytes = 40960 };
}

-- a region right behind it, without room for the wall between them
abbrev pub fourth : RegionRec
fourth = record {
  number = 4;
  first = 7;
  granules = 2;
  waste = 0;
  region = record { base = 81920; bytes = 16384 };
}

abbrev pub no_region_word : RegionWord
no_region_word = record { live = false; number = 0; first = 0; granules = 0; waste = 0 }

abbrev pub named_regions : Shadow
named_regions = record {
  live = put (λ s. None) 3 (Some third);
  out = put (λ s. None) 3 (Some third);
  counter = 4;
}

abbrev pub giving : Task
giving = Task.At (OfficeJob.Give 2) (OfficeAt.Take (Some 3))

abbrev pub named_office : Core
named_office = record {
  lock = Some 1;
  words = put (λ s. no_region_word) 3 (region_word_of third);
  bases = put (λ s. 0) 3 16384;
  tasks = put (λ seat. Task.Away) 1 giving;
}
