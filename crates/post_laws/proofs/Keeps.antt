-- Each step, and so each run, keeps what holds of the pool, its mail and its orphans.
use Rattle.public_list.specs.declared.joining.JoinAt.{JoinAt}
use Rattle.orphan_laws.proofs.CallerLemmas.{runs_keep_orphans}
use Rattle.use_laws.proofs.Keeps.{runs_keep_pool}
use Rattle.post_laws.specs.Posts.{locals_of}
use Rattle.post_laws.specs.Steps.{PostStep}
use Rattle.post_laws.specs.Steps.PostRun.{starts, steps}
use Rattle.post_laws.specs.Laws.{StepsKeepPost, RunsKeepPost}
use Rattle.post_laws.proofs.Ties.{ties_stay}
use Rattle.post_laws.proofs.Pushing.{pushes_keep, mails_keep}
use Rattle.post_laws.proofs.Fetching.{takes_box_keeps, reads_next_keeps, settles_keep, lists_keep, ties_keep}
use Rattle.post_laws.proofs.Orphaned.{takes_orphans_keep, adopts_keep, leaves_keep}
use Rattle.post_laws.proofs.Returned.{returns_keep}

pub steps_keep_post : StepsKeepPost
steps_keep_post k t p later good (PostStep.pushes call at is) = pushes_keep k t p call at is good
steps_keep_post k t p later good (PostStep.mails e at is) = mails_keep k t p e at is good
steps_keep_post k t p later good (PostStep.takes_box class head is) = takes_box_keeps k t p class head is good
steps_keep_post k t p later good (PostStep.reads_next class e head is) = reads_next_keeps k t p class e head is good
steps_keep_post k t p later good (PostStep.settles class e rest head is) =
    settles_keep k t p class e rest head is good
steps_keep_post k t p later good (PostStep.takes_list class e rest is) =
    lists_keep k t p class e rest JoinAt.Take tt is good
steps_keep_post k t p later good (PostStep.walks class e rest first at count is) =
    lists_keep k t p class e rest (JoinAt.Walk first at count) tt is good
steps_keep_post k t p later good (PostStep.ties class e rest first last count is) =
    ties_keep k t p class e rest first last count is good
steps_keep_post k t p later good (PostStep.takes_orphans class is) = takes_orphans_keep k t p class is good
steps_keep_post k t p later good (PostStep.adopts class e header rest is) =
    adopts_keep k t p class e header rest is good
steps_keep_post k t p later good (PostStep.leaves e at is won) = leaves_keep k t p e at is won good
steps_keep_post k t p later good (PostStep.returns class e at is won) = returns_keep k t p class e at is won good
steps_keep_post k t p later good (PostStep.together now pool' orphans stay here) = record {
  pool' = runs_keep_pool k p.pool now.pool good.pool' pool';
  orphans = runs_keep_orphans k p.ways p.pool.mem (locals_of p) now.ways now.pool.mem (locals_of now) good.orphans
      orphans;
  ties = ties_stay k p now t good stay here;
}

pub runs_keep_post : RunsKeepPost
runs_keep_post k p later good starts = good
runs_keep_post k p later good (steps {before} run seat step) =
    steps_keep_post k seat before later (runs_keep_post k p before good run) step
