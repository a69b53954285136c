-- The word of a region reads back, and so does an offset.
use Rattle.std.proofs.Common.{◌≡◌, ℕ, ◌+◌, ◌*◌, ◌/◌, ◌%◌, ◌^◌, ◌<◌, Bool, true, false, eqb, refl, arith}
use Rattle.std.proofs.lemmas.Bool.Decides.{nat_tests}
use Rattle.word_codes.specs.declared.region_words.RegionWord.{RegionWord}
use Rattle.word_codes.specs.RegionWords.{region_of, region_word, unit_in, offset_of, FitsRegion}
use Rattle.word_codes.specs.Laws.{RegionsReadBack, OffsetsReadBack}

-- five fields in one word
pub fields_back : (l n x g w : ℕ) → l < 2 → n < 2 ^ 22 → x < 2 ^ 14 → g < 2 ^ 14 → w < 2 ^ 13 → (word : ℕ) →
    word ≡ l + 2 * n + 2 ^ 23 * x + 2 ^ 37 * g + 2 ^ 51 * w →
    (word % 2 ≡ l) × ((word / 2 % 2 ^ 22 ≡ n) × ((word / 2 ^ 23 % 2 ^ 14 ≡ x) ×
    ((word / 2 ^ 37 % 2 ^ 14 ≡ g) × (word / 2 ^ 51 ≡ w))))
fields_back l n x g w hl hn hx hg hw word e = (omega arith, (omega arith, (omega arith, (omega arith, omega arith))))

abbrev fields : RegionWord → ℕ → ℕ
fields r live =
    live + 2 * (r.number % 2 ^ 22) + 2 ^ 23 * (r.first % 2 ^ 14) + 2 ^ 37 * (r.granules % 2 ^ 14)
    + 2 ^ 51 * (r.waste % 2 ^ 13)

-- what a word of these fields is read as
pub read_fields : (r : RegionWord) (live : ℕ) → FitsRegion r → live < 2 →
    region_of (fields r live) ≡ record r { live = eqb live 1 }
unfolding region_of
read_fields r live h small =
    let f = fields_back live r.number r.first r.granules r.waste small h.number h.first h.granules h.waste
    (fields r live) (omega (arith, h.number, h.first, h.granules, h.waste)) in
    rw f.0 (rw f.1.0 (rw f.1.1.0 (rw f.1.1.1.0 (rw f.1.1.1.1 refl))))

pub region_back : (live : Bool) (r : RegionWord) → r.live ≡ live → FitsRegion r → region_of (region_word r) ≡ r
unfolding region_word
region_back true r e h = rw e (read_fields r 1 h (omega arith))
region_back false r e h = rw e (read_fields r 0 h (omega arith))

pub regions_read_back : RegionsReadBack
regions_read_back r h = region_back r.live r refl h

pub offsets_read_back : OffsetsReadBack
unfolding unit_in offset_of
offsets_read_back r offset unit h small e = grind (arith, nat_tests, h.first, h.waste)
