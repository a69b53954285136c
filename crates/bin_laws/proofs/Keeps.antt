-- Each step, and so each run, keeps what holds of blocks, guards, and bins' locks and lists, and what that tells.
use Rattle.std.proofs.Common.{◌≡◌, ◌⊎◌, inl, inr, ℕ, refl, sym, ap, subst, arith, ◌∙◌}
use Rattle.pool_words.specs.declared.words.Key.{Key}
use Rattle.backend_bins.specs.Blocks.{bin_of}
use Rattle.word_laws.specs.Memory.{Mem}
use Rattle.word_laws.proofs.CallerLemmas.{equal_or, put_else}
use Rattle.lock_laws.specs.Seats.{lock_in}
use Rattle.bin_laws.specs.Bins.{list_task, won_of, coming_of, cut_of, Member, IsMember, in_bin}
use Rattle.bin_laws.specs.Bins.{Shadow, Locals, BinGood}
use Rattle.bin_laws.specs.Steps.{BinStep}
use Rattle.bin_laws.specs.Steps.BinRun.{starts, steps}
use Rattle.bin_laws.specs.Laws.{StepsKeepBins, RunsKeepBins, IsListed, IsComing, BlocksInBinsAreListed, IsOfBin}
use Rattle.bin_laws.specs.Laws.{ListsHaveTheirBlocks, WonBlocksAreFound}
use Rattle.bin_laws.proofs.Guarded.{guards-as, wins-as, comes-as, one_lock, comes_by, is_listed, listed_once}
use Rattle.bin_laws.proofs.Lists.{takes-as, leaves-as, frees-as, links-as, unlinks-as}

pub steps_keep_bins : StepsKeepBins
steps_keep_bins k t g m l h m' l' good (BinStep.guards guards' words' tasks step quiet same) =
    guards-as k t g m l guards' words' tasks step quiet same good
steps_keep_bins k t g m l h m' l' good (BinStep.wins c is won ready) = wins-as k t g m l c is won ready good
steps_keep_bins k t g m l h m' l' good (BinStep.comes x n is has) = comes-as k t g m l x n is has good
steps_keep_bins k t g m l h m' l' good (BinStep.takes b some is) = takes-as k t g m l b some is good
steps_keep_bins k t g m l h m' l' good (BinStep.leaves x n is) = leaves-as k t g m l x n is good
steps_keep_bins k t g m l h m' l' good (BinStep.frees b is) = frees-as k t g m l b is good
steps_keep_bins k t g m l h m' l' good (BinStep.links x n at is) = links-as k t g m l x n at is good
steps_keep_bins k t g m l h m' l' good (BinStep.unlinks x n at is) = unlinks-as k t g m l x n at is good

pub runs_keep_bins : RunsKeepBins
runs_keep_bins k g m l h m' l' good starts = good
runs_keep_bins k g m l h m' l' good (steps {g1} {m1} {l1} run seat step) =
    steps_keep_bins k seat g1 m1 l1 h m' l' (runs_keep_bins k g m l g1 m1 l1 good run) step

-- a member of this length is in the list of its bin, and in no other
listed_alone : (k : Key) (g : Shadow) (m : Mem) (l : Locals) (x n : ℕ) → BinGood k g m l → g.member x ≡ Member.In n
    → IsListed g x n
listed_alone k g m l x n good is = record {
  once = listed_once g.items g.member x n good.once is;
  else = λ b ne. good.once b x ∙ ap (in_bin b) is ∙ put_else (λ _. 0) (bin_of n) b 1 (λ q. ne (sym q));
}

pub blocks_in_bins_are_listed : BlocksInBinsAreListed
blocks_in_bins_are_listed k g m l x n good at = by (g.member x) refl (good.members.bin_is x n at)
  where
    by : (b : Member) → g.member x ≡ b → IsMember n b → IsListed g x n ⊎ IsComing g l x n
    by Member.Out q h = absurd h
    by (Member.In j) q h = inl (listed_alone k g m l x n good (q ∙ ap Member.In h))
    by (Member.Comes j o) q h =
        let comes = good.members.is_coming o x n (q ∙ ap (λ b. Member.Comes b o) h) in
        let lock = comes_by (l.bins o) x n comes in
        inr (record {
          none = λ b. good.once b x ∙ ap (in_bin b) q;
          seat = o;
          comes = comes;
          lock = lock;
          alone = λ p other. one_lock k m l.bins g.items (bin_of n) o p good.lists lock other;
        })

pub lists_have_their_blocks : ListsHaveTheirBlocks
lists_have_their_blocks k g m l b x good some = by (g.member x) refl
  where
    none : in_bin b (g.member x) ≡ 0 → ⊥
    none q = let t = good.once b x in omega arith

    by : (q : Member) → g.member x ≡ q → IsOfBin g l b x
    by Member.Out q = absurd (none (ap (in_bin b) q))
    by (Member.In n) q = record {
      granules = n;
      bin = equal_or (bin_of n) b (λ e. e)
          (λ ne. absurd (none (ap (in_bin b) q ∙ put_else (λ _. 0) (bin_of n) b 1 ne)));
      use' = good.members.is_bin x n (subst (IsMember n) (sym q) refl);
    }
    by (Member.Comes n o) q = absurd (none (ap (in_bin b) q))

pub won_blocks_are_found : WonBlocksAreFound
won_blocks_are_found k g m l t x n good is = listed_alone k g m l x n good
    (is_listed k m l.bins g.items g.guards.place (λ j. won_of (l.bins j)) (λ j. cut_of (l.bins j)) g.member t x n
    good.lists good.members (good.members.won_is t x n (ap won_of is)).1 (ap (λ q. lock_in (list_task q)) is)
    (ap coming_of is))
