-- A step of mail or orphans after which each slab is kept as before leaves all other seats alone; so do those by which
-- what was given back to an adopted slab is joined, and a slab begins or ends.
use Rattle.std.proofs.Common.{◌≡◌, ◌≢◌, ℕ, refl, sym, ◌∙◌}
use Rattle.pool_words.specs.declared.words.Key.{Key}
use Rattle.orphans.specs.Adopting.{adopt_course, adopt_learn}
use Rattle.orphans.specs.Leaving.{leave_course, leave_learn}
use Rattle.word_laws.specs.Memory.{Mem, found}
use Rattle.mail_laws.specs.Mail as mailing
use Rattle.mail_laws.specs.Steps.{MailStep}
use Rattle.orphan_laws.specs.Orphans as orphaning
use Rattle.orphan_laws.specs.Orphans.{Locals, mail_locals}
use Rattle.orphan_laws.specs.Steps.{OrphanStep, adopt_of, leave_of, return_of, with_book, book_adopted}
use Rattle.post_laws.specs.Posts.{locals_of}
use Rattle.pool_laws.specs.Changes.{with_ways}
use Rattle.pool_laws.specs.Steps.{IsOwnMail, IsOwnOrphan}
use Rattle.pool_laws.specs.Wholes.{Whole, post_of}
use Rattle.seat_laws.specs.Stays.{SeatStays}
use Rattle.seat_laws.proofs.Alone.{SameGuards, after_spared, blocks_stay, lists_stay, not_put, same_guards, stand_same}
use Rattle.seat_laws.proofs.Alone.{stored_spared}
use Rattle.seat_laws.proofs.Posts.{MailStays, adopt_spares, adopted_stays, leave_spares, left_stays, mail_task}
use Rattle.seat_laws.proofs.Posts.{rested_stays, returned_stays}

-- what such a step leaves
record WaysLeave (m m' : Mem) (l l' : Locals) (t : ℕ) : Type 0 where
  pub words : SameGuards m m'
  pub own : MailStays l l' t

not_he : (o seat t : ℕ) → o ≡ seat → seat ≢ t → o ≢ t
not_he o seat t is ne same = ne (sym is ∙ same)

mail_leaves : (k : Key) (seat t : ℕ) (w : Whole) (g : mailing.Shadow) (l : mailing.Locals) (h : mailing.Shadow) (m' :
    Mem)
    (l' : mailing.Locals) → seat ≢ t → (step : MailStep k g w.pool.mem l h m' l') → IsOwnMail seat w step
    → SameGuards w.pool.mem m' × (l'.tasks t ≡ l.tasks t)
mail_leaves k seat t w g l h m' l' ne (MailStep.fetch_begins o class is low few) own =
    (same_guards w.pool.mem, not_put l.tasks o t _ (not_he o seat t own.0 ne))
mail_leaves k seat t w g l h m' l' ne (MailStep.begins o e class is absent low few inside) own =
    (same_guards w.pool.mem, not_put l.tasks o t _ (not_he o seat t own.0 ne))
mail_leaves k seat t w g l h m' l' ne (MailStep.settles o e class is) own =
    (stored_spared k w.pool.mem _ _ refl, not_put l.tasks o t _ (not_he o seat t own ne))
mail_leaves k seat t w g l h m' l' ne (MailStep.clears o e class is) own =
    (stored_spared k w.pool.mem _ _ refl, refl)
mail_leaves k seat t w g l h m' l' ne step own = absurd own

ways_leave : (k : Key) (seat t : ℕ) (w : Whole) (h : orphaning.Shadow) (m' : Mem) (l' : Locals) → seat ≢ t
    → (step : OrphanStep k w.ways w.pool.mem (locals_of (post_of w)) h m' l') → IsOwnOrphan seat w step
    → WaysLeave w.pool.mem m' (locals_of (post_of w)) l' t
ways_leave k seat t w h m' l' ne (OrphanStep.leave_begins o e is by) own = record {
  words = same_guards w.pool.mem;
  own = mail_task o t _ (locals_of (post_of w)) (not_he o seat t own.0 ne);
}
ways_leave k seat t w h m' l' ne (OrphanStep.leaves o e at is) own =
    let l = locals_of (post_of w) in let call = leave_of l e in record {
      words = after_spared k w.pool.mem (leave_course call at) (leave_spares call at);
      own = left_stays o t e (leave_learn at (found w.pool.mem (leave_course call at))) l
          (not_he o seat t own.0 ne);
    }
ways_leave k seat t w h m' l' ne (OrphanStep.take_begins o class is low few) own = record {
  words = same_guards w.pool.mem;
  own = mail_task o t _ (locals_of (post_of w)) (not_he o seat t own.0 ne);
}
ways_leave k seat t w h m' l' ne (OrphanStep.adopts o class at is) own =
    let l = locals_of (post_of w) in let call = adopt_of o class in
    let adopted = adopted_stays o t class (adopt_learn at (found w.pool.mem (adopt_course call at)))
    (with_book (book_adopted o class at w.ways l.book) l) (not_he o seat t own.0 ne) in
    record {
      words = after_spared k w.pool.mem (adopt_course call at) (adopt_spares call at);
      own = record { mails = adopted.mails; tasks = adopted.tasks; spares' = adopted.spares' };
    }
ways_leave k seat t w h m' l' ne (OrphanStep.goes_on o class rest enough is) own = record {
  words = same_guards w.pool.mem;
  own = rested_stays o t class enough rest (locals_of (post_of w)) (not_he o seat t own.0 ne);
}
ways_leave k seat t w h m' l' ne (OrphanStep.returns o class e at is) own =
    let call = return_of class e in record {
      words = after_spared k w.pool.mem (leave_course call at) (leave_spares call at);
      own = returned_stays o t class e (leave_learn at (found w.pool.mem (leave_course call at))) (locals_of (post_of
          w))
          (not_he o seat t own.0 ne);
    }
ways_leave k seat t w h m' l' ne (OrphanStep.owns_first o e class is settled) own = record {
  words = stored_spared k w.pool.mem _ _ refl;
  own = mail_task o t _ (locals_of (post_of w)) (not_he o seat t own ne);
}
ways_leave k seat t w h m' l' ne (OrphanStep.asides {h = mh} {ml = ml} step aside) own =
    let left = mail_leaves k seat t w w.ways.mail (mail_locals (locals_of (post_of w))) mh m' ml ne step own in
    record { words = left.0; own = record { mails = left.1; tasks = refl; spares' = refl } }
ways_leave k seat t w h m' l' ne step own = absurd own

pub orphans_leave : (k : Key) (seat t : ℕ) (w : Whole) (h : orphaning.Shadow) (m' : Mem) (l' : Locals) → seat ≢ t
    → (step : OrphanStep k w.ways w.pool.mem (locals_of (post_of w)) h m' l') → IsOwnOrphan seat w step
    → SeatStays w (with_ways h m' l' w) t
orphans_leave k seat t w h m' l' ne step own = let left = ways_leave k seat t w h m' l' ne step own in record {
  pool = record { guards = refl; objects = refl; notes = refl; last = refl; kept = refl; cached = refl };
  tasks = record {
    bins = refl;
    queue = refl;
    drained = refl;
    mails = left.own.mails;
    orphans = left.own.tasks;
    spares = left.own.spares';
    jobs = refl;
    desks = refl;
  };
  blocks = blocks_stay w.pool (with_ways h m' l' w).pool t (stand_same w.pool.blocks.place t) left.words;
  lists = lists_stay w (with_ways h m' l' w) t left.words refl refl;
}
