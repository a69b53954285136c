-- Each turn keeps what a local says by itself.
use Rattle.std.proofs.Common.{◌≡◌, ℕ, Bool, true, refl, subst, sym}
use Rattle.pool_words.specs.declared.actions.Seen.{Seen}
use Rattle.pool_words.specs.declared.words.Key.{Key}
use Rattle.pool_words.specs.Actions.{word_seen}
use Rattle.backend_bins.specs.Bin.{bin_learn}
use Rattle.backend_bins.specs.Cut.{cut_learn}
use Rattle.coalescer.specs.Drain.{drain_learn}
use Rattle.coalescer.specs.Put.{put_learn}
use Rattle.large_cache.specs.Get.{get_learn}
use Rattle.large_cache.specs.Keep.{keep_learn}
use Rattle.large_cache.specs.Sweep.{sweep_learn}
use Rattle.large_cache.specs.Undo.{undo_learn}
use Rattle.mailbox.specs.Mailing.{mail_learn}
use Rattle.public_list.specs.Looking.{look_learn}
use Rattle.public_list.specs.Posting.{post_learn}
use Rattle.region_steps.specs.Office.{office_learn}
use Rattle.word_codes.specs.Links.{link_of}
use Rattle.step_local.specs.declared.frames.At.{At}
use Rattle.step_local.specs.declared.frames.Local.{Local}
use Rattle.step_local.specs.Backend.{cut_call, drain_call, office_call, whole_call}
use Rattle.step_local.specs.Large.{sweep_call}
use Rattle.step_local.specs.Learn.{learn_at}
use Rattle.step_local.specs.Leaving.{put_call}
use Rattle.step_local.specs.Objects.{look_call}
use Rattle.step_numbers.proofs.CallerLemmas.{turns_keep_numbers}
use Rattle.step_fits.specs.Frames.{Frames, rooms_at}
use Rattle.step_fits.specs.Laws.{TurnsKeepFits}
use Rattle.step_fits.specs.Positions.{AtFits, BeginsNewAt}
use Rattle.step_fits.proofs.Backend.{fits-cut_as, fits-drained_as, fits-office_as, fits-put_as, fits-queue_as}
use Rattle.step_fits.proofs.Backend.{fits-scan, fits-whole_as}
use Rattle.step_fits.proofs.Framed.{Fits, fits-answered}
use Rattle.step_fits.proofs.Large.{fits-get_as, fits-keep_as, fits-large_learn, fits-locate_learn, fits-swept_as}
use Rattle.step_fits.proofs.Large.{fits-undo_as}
use Rattle.step_fits.proofs.Objects.{fits-end_learn_of, fits-looked_as, fits-mail_as, fits-post_as}
use Rattle.step_fits.proofs.Resets.{fits-reset_learn_of}
use Rattle.step_fits.proofs.Slabs.{fits-small_learn}
use Rattle.step_fits.proofs.Small.{fits-adopt_learn_of, fits-box_learn_of, fits-join_learn_of, fits-leave_learn_of}
use Rattle.step_fits.proofs.Small.{fits-spare_learn_of}

fits-learn_at : (sure : Bool) {k : Key} {seat : ℕ} (l : Local) (at : At) (s : Seen) → l.at ≡ at
    → Frames k seat (rooms_at at) l → AtFits sure l at → (sure ≡ true → BeginsNewAt k l at)
    → Fits k seat sure (learn_at l at s)
fits-learn_at sure {k} {seat} l At.Idle s here frames is new =
    subst (λ (x : At). Frames k seat (rooms_at x) l × AtFits sure l x)
    (sym here) (frames, is)
fits-learn_at sure l (At.Ready answer) s here frames is new = fits-answered sure l answer frames
fits-learn_at sure l (At.Look at) s here frames is new =
    fits-looked_as sure l (look_learn (look_call l) at (word_seen s)) frames is
fits-learn_at sure l (At.End at) s here frames is new = fits-end_learn_of sure l at (word_seen s) frames is
fits-learn_at sure l (At.Post at) s here frames is new = fits-post_as sure l (post_learn at (word_seen s)) frames is
fits-learn_at sure l (At.Mail at) s here frames is new = fits-mail_as sure l (mail_learn at (word_seen s)) frames is
fits-learn_at sure l (At.Mailbox at) s here frames is new = fits-box_learn_of sure l at (word_seen s) frames is
fits-learn_at sure l (At.Adopt at) s here frames is new = fits-adopt_learn_of sure l at (word_seen s) frames is
fits-learn_at sure l (At.Join slab rest at) s here frames is new =
    fits-join_learn_of sure l slab rest at (word_seen s) frames is
fits-learn_at sure l (At.Spare at) s here frames is new = fits-spare_learn_of sure l at (word_seen s) frames is
fits-learn_at sure l (At.Leave slab at) s here frames is new =
    fits-leave_learn_of sure l slab at (word_seen s) frames is
fits-learn_at sure l (At.Locate at) s here frames is new = fits-locate_learn sure l at (word_seen s) frames is
fits-learn_at sure l (At.Small at) s here frames is new = fits-small_learn sure l at (word_seen s) frames is new
fits-learn_at sure l (At.Large at) s here frames is new = fits-large_learn sure l at (word_seen s) frames is
fits-learn_at sure l (At.Get at) s here frames is new = fits-get_as sure l at (get_learn at (word_seen s)) frames is
fits-learn_at sure l (At.Undo cause at) s here frames is new =
    fits-undo_as sure l cause at (undo_learn at (word_seen s)) frames is
fits-learn_at sure l (At.Keep at) s here frames is new = fits-keep_as sure l at (keep_learn at (word_seen s)) frames is
fits-learn_at sure l (At.Sweep at) s here frames is new =
    fits-swept_as sure l at (sweep_learn (sweep_call l) at (word_seen s)) frames is
fits-learn_at sure l (At.Scan at) s here frames is new = fits-scan sure l at (word_seen s) frames is.0 is.1
fits-learn_at sure l (At.Cut at) s here frames is new =
    fits-cut_as sure l at (cut_learn (cut_call l) at (word_seen s)) frames is
fits-learn_at sure l At.Queue s here frames is new = fits-queue_as sure l (link_of (word_seen s)) frames is
fits-learn_at sure l (At.Whole at) s here frames is new =
    fits-whole_as sure l at (bin_learn (whole_call l) at (word_seen s)) frames is
fits-learn_at sure l (At.Drain at) s here frames is new =
    fits-drained_as sure l at (drain_learn (drain_call l) at (word_seen s)) frames is
fits-learn_at sure l (At.Put at) s here frames is new =
    fits-put_as sure l at (put_learn (put_call l) at (word_seen s)) frames is
fits-learn_at sure l (At.Office job at) s here frames is new =
    fits-office_as sure l job at (office_learn (office_call l job) at s) frames is
fits-learn_at sure l (At.Reset at) s here frames is new = fits-reset_learn_of sure l at (word_seen s) frames is

pub turns_keep_fits : TurnsKeepFits
turns_keep_fits k seat sure l s fits new =
    let next = fits-learn_at sure l l.at s refl fits.frames fits.place new in record {
      frames = next.0;
      place = next.1;
      numbers = (turns_keep_numbers l fits.numbers).turns s;
    }
