-- What laws above cite, and what each further group of laws begins with.
pub use Rattle.step_laws.proofs.Elsewhere.{turns_elsewhere_leave_the_office}
pub use Rattle.step_laws.proofs.Seats.{IsSeated, seated_learn, seated_begun, seated_reset, seated_silence}
pub use Rattle.step_laws.proofs.Turns.{put_twice, put_back, put_mapped, out_of, job_kept}
pub use Rattle.step_laws.proofs.Runs.{run_seated, run_on, from_new, this_seat, before_seats, seats_before}
pub use Rattle.step_laws.proofs.Runs.{runs_keep_office, runs_go_on, live_regions_lie_apart}
pub use Rattle.step_laws.proofs.Desks.{comes_fresh, comes_within, few_indices}
pub use Rattle.step_laws.proofs.Fits.{Fits, FitsWith, good_of, goes_out, begun_goes, back_goes, taken_goes}
pub use Rattle.step_laws.proofs.Fits.{asked_fits, comes_goes, refused_goes, rests_fit}
pub use Rattle.step_laws.proofs.Runs.{new_fits, leaves_fit, few_seats, first_sound}
pub use Rattle.step_laws.proofs.Turns.{answered_out, begun_out}
