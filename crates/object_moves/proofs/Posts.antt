-- Posts: an object that was given back is listed at its slab.
use Rattle.std.proofs.Common.{◌≡◌, ℕ, refl, sym, ap, ◌∙◌}
use Rattle.pool_words.specs.declared.actions.Action.{Action}
use Rattle.pool_words.specs.Actions.{word_seen}
use Rattle.public_list.specs.declared.posting.PostAt.{PostAt}
use Rattle.public_list.specs.declared.posting.PostCall.{PostCall}
use Rattle.public_list.specs.declared.posting.PostNext.{PostNext}
use Rattle.public_list.specs.Posting.{post_course, post_learn}
use Rattle.mailbox.specs.declared.mailing.MailAt.{MailAt}
use Rattle.word_laws.specs.Memory.{after, found}
use Rattle.word_laws.proofs.CallerLemmas.{put_here}
use Rattle.object_laws.specs.Objects as objects
use Rattle.object_laws.specs.Rows.{posted_as}
use Rattle.mail_laws.specs.Mail as mailing
use Rattle.mail_laws.specs.Steps as mails
use Rattle.post_laws.specs.After.{post_pushed}
use Rattle.post_laws.specs.Posts.{Post}
use Rattle.post_laws.specs.Steps.{PostStep}
use Rattle.step_local.specs.declared.frames.At.{At}
use Rattle.step_local.specs.declared.frames.Local.{Local}
use Rattle.step_local.specs.Objects.{post_call}
use Rattle.step_tasks.specs.Mail.{owed_task}
use Rattle.step_tasks.specs.Objects.{posted_task}
use Rattle.step_tasks.proofs.CallerLemmas.{rows_leave_object_tasks}
use Rattle.heap_tasks.proofs.CallerLemmas.{rows_leave_notes}
use Rattle.pool_laws.specs.Changes.{with_post}
use Rattle.pool_laws.specs.Steps.{WholeStep}
use Rattle.pool_laws.specs.Wholes.{Whole, post_of}
use Rattle.seat_ties.specs.Turns.{found_in, may_start, seen_in, stays, steps_on}
use Rattle.seat_ties.proofs.CallerLemmas.{nothing_is_said_elsewhere, seats_left_are_here, turns_start_desks}
use Rattle.object_moves.specs.Laws.{PostsTurn}
use Rattle.object_moves.specs.Positions.{IsPostAt}
use Rattle.object_moves.proofs.Seats.{TurnedAt, free_of, hands_stay, word_found}

-- a push that replaced Null is to be followed by the mailing of the slab
mails_owed : (seat : ℕ) (call : PostCall) (next : PostNext) (locals : mailing.Locals)
    → locals.tasks seat ≡ mailing.Task.Away
    → (mails.posted_as seat call next locals).tasks seat ≡ owed_task call.slab next
mails_owed seat call (PostNext.Goes at) locals away = away
mails_owed seat call PostNext.Listed locals away = away
mails_owed seat call PostNext.Owed locals away =
    put_here locals.tasks seat seat (mailing.Task.Mailing call.slab MailAt.Next) refl

-- a post changes no number of a grant
posted_lasts : (seat : ℕ) (call : PostCall) (next : PostNext) (locals : objects.Locals)
    → (posted_as seat call next locals).lasts ≡ locals.lasts
posted_lasts seat call (PostNext.Goes at) locals = refl
posted_lasts seat call PostNext.Listed locals = refl
posted_lasts seat call PostNext.Owed locals = refl

post_turn : (at : PostAt) → TurnedAt (At.Post at)
post_turn at k w l0 good tied calm word suits =
    let l : Local = record l0 { at = At.Post at } in
    let s = seen_in w l in
    let call = post_call l in
    let action : Action = post_course call at in
    let f : ℕ = found w.pool.mem action in
    let seen : word_seen s ≡ f = word_found w.pool.mem action in
    let next : PostNext = post_learn at f in
    let p : Post = post_pushed l.seat call next (after k w.pool.mem action) (post_of w) in
    let later : Whole = with_post p w in
    let tasks = tied.tasks in
    record {
      later = later;
      run = steps_on stays (WholeStep.posts p (PostStep.pushes call at tasks.objects) tt
          (free_of w l.seat tasks.jobs tasks.queue));
      office = refl;
      words = refl;
      here = seats_left_are_here k later l.seat l s tied.says suits (record {
        tasks = record {
          guards = tasks.guards;
          bins = tasks.bins;
          queue = tasks.queue;
          objects = ap (λ t. t l.seat) ((rows_leave_object_tasks l.seat w.pool.locals).posts call next)
              ∙ put_here w.pool.locals.tasks l.seat l.seat (posted_task call next) refl
              ∙ ap (λ x. posted_task call (post_learn at x)) (sym seen);
          mails = mails_owed l.seat call next _ tasks.mails
              ∙ ap (λ x. owed_task call.slab (post_learn at x)) (sym seen);
          orphans = tasks.orphans;
          jobs = tasks.jobs;
          desks = may_start tasks.desks (turns_start_desks l (found_in w l) word refl);
        };
        heap = record {
          kept = tied.heap.kept;
          cached = tied.heap.cached;
          spares = tied.heap.spares;
          last = ap (λ lasts. lasts l.seat) (posted_lasts l.seat call next w.pool.locals) ∙ tied.heap.last;
        };
        notes = ap (λ notes. notes l.seat) ((rows_leave_notes l.seat w.pool.locals).posts call next) ∙ tied.notes;
      }) (hands_stay w.pool.blocks.place (w.drained l.seat) l.seat l s tied.says.hands suits.step refl tied.hands)
          (nothing_is_said_elsewhere later l.seat l s tt).words;
    }

posts_at : (at : At) → IsPostAt at → TurnedAt at
posts_at (At.Post at) is = post_turn at
posts_at _ is = λ k w l good tied calm word suits. absurd is

pub posts_turn : PostsTurn
posts_turn k w l good tied calm word suits is = posts_at l.at is k w l good tied calm word suits
