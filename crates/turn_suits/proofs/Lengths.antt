-- In the last bin a block's guard tells a length of that bin.
use Rattle.std.proofs.Common.{◌≡◌, ◌⊎◌, inl, inr, ℕ, ◌<◌, cond, eqb, refl, sym, ap, subst, arith, ◌∙◌}
use Rattle.std.proofs.Common.{Bool, true, false}
use Rattle.std.proofs.lemmas.Bool.{eqb-true}
use Rattle.pool_words.specs.declared.words.Key.{Key}
use Rattle.word_codes.specs.declared.guards.Guard.{Guard}
use Rattle.word_codes.specs.Guards.{guard_of}
use Rattle.pool_words.specs.Words.{sizes}
use Rattle.guards.specs.declared.win.Side.{Side}
use Rattle.guards.specs.declared.win.Taking.{Taking}
use Rattle.backend_bins.specs.Blocks.{bin_of}
use Rattle.chain_laws.specs.Chains.{tally}
use Rattle.guard_laws.specs.Blocks.{Piece, Place, Use}
use Rattle.bin_laws.specs.Bins.{IsMember, Member, in_bin, won_of}
use Rattle.backend_tasks.specs.Fits.{LengthFits}
use Rattle.pool_laws.specs.Wholes.{Whole, WholeGood}
use Rattle.turn_suits.proofs.Guards.{free_tells}

-- a block of a bin's list
pub record IsListed (place : ℕ → Place) (bin x : ℕ) : Type 0 where
  pub granules : ℕ
  pub use' : Use
  pub block : place x ≡ Place.Block x granules use'
  pub bin' : bin_of granules ≡ bin

one_is : (b : Bool) → 0 < cond b 1 0 → b ≡ true
one_is true some = refl
one_is false some = absurd (omega arith)

pub listed : (k : Key) (w : Whole) (bin x : ℕ) → WholeGood k w → 0 < tally x (w.items bin)
    → IsListed w.pool.blocks.place bin x
listed k w bin x good some = by (w.member x) refl
    (let e = good.free.bins.once bin x in subst (λ n. 0 < n) e some)
  where
    by : (m : Member) → w.member x ≡ m → 0 < in_bin bin m → IsListed w.pool.blocks.place bin x
    by Member.Out is one = absurd (omega arith)
    by (Member.Comes n seat) is one = absurd (omega arith)
    by (Member.In n) is one = at (good.free.bins.members.is_bin x n (subst (IsMember n) (sym is) refl))
      where
        same : bin_of n ≡ bin
        same = eqb-true (bin_of n) bin (one_is (eqb (bin_of n) bin) one)

        at : (w.pool.blocks.place x ≡ Place.Block x n Use.Bin)
            ⊎ ((t : ℕ) × (taking : Taking) × (w.pool.blocks.place x ≡ Place.Block x n (Use.Held t taking))
            × (won_of (w.bins t) ≡ Piece.Got x n)) → IsListed w.pool.blocks.place bin x
        at (inl is') = record { granules = n; use' = Use.Bin; block = is'; bin' = same }
        at (inr (t, taking, is', won)) = record { granules = n; use' = Use.Held t taking; block = is'; bin' = same }

same_length : (place : ℕ → Place) (x y n m : ℕ) (u v : Use) → place x ≡ Place.Block x n u
    → place y ≡ Place.Block y m v → y ≡ x → n ≡ m
same_length place x y n m u v e f same = let g = subst (λ z. place z ≡ Place.Block z m v) same f in cc

pub length_fits : (k : Key) (w : Whole) (bin x : ℕ) (guard : Guard) → WholeGood k w → 0 < tally x (w.items bin)
    → guard_of (w.pool.mem sizes x) ≡ guard → LengthFits bin guard
length_fits k w bin x (Guard.Free n) good some is =
    let one = listed k w bin x good some in
    let told = free_tells k w.pool.blocks w.pool.mem w.pool.tasks Side.Begin x n good.free.pool.guards is in
    let long = same_length w.pool.blocks.place x told.first one.granules n one.use' told.use' one.block told.block
    told.edge in
    sym one.bin' ∙ ap bin_of long
length_fits k w bin x Guard.Used good some is = tt
length_fits k w bin x Guard.Coalescing good some is = tt
length_fits k w bin x Guard.Wall good some is = tt
