-- A new pool, in which there is nothing; and a whole by name. Its region of five granules, in slot 3, was one block in
-- seat 1's hand, from which steps of the seat lead to it: the block was cut, at 2 a slab began, and of that an object
-- was granted; the block at 4 is in the seat's hand.
use Rattle.std.specs.Prelude.{ℕ}
use Rattle.pool_words.specs.declared.words.Key.{Key}
use Rattle.pool_words.specs.declared.words.Word.{Word}
use Rattle.pool_words.specs.declared.actions.Action.TheVariants.{Store, Swap}
use Rattle.word_codes.specs.declared.nexts.Next.{Next}
use Rattle.word_codes.specs.declared.owns.Own.{Own}
use Rattle.word_codes.specs.declared.publics.Public.{Public}
use Rattle.word_codes.specs.Nexts.{next_word}
use Rattle.word_codes.specs.Owns.{own_word}
use Rattle.word_codes.specs.Publics.{public_word}
use Rattle.word_laws.specs.Memory.{Mem, put, after}
use Rattle.chain_laws.specs.Named.{ten_key}
use Rattle.guard_laws.specs.Steps.{shadow_split}
use Rattle.object_laws.specs.Objects.Task.{Resting}
use Rattle.object_laws.specs.Rows as rows
use Rattle.mail_laws.specs.Mail as mailing
use Rattle.mail_laws.specs.Mail.{Mail, key_by}
use Rattle.mail_laws.specs.Steps as mails
use Rattle.orphan_laws.specs.Orphans.{Task, mail_locals}
use Rattle.orphan_laws.specs.Steps as orphaning
use Rattle.orphan_laws.specs.Steps.{with_way, with_mails}
use Rattle.use_laws.specs.After.{pool_begun, pool_rested}
use Rattle.use_laws.specs.Named.{fresh_pool}
use Rattle.region_laws.specs.Named as regions
use Rattle.shelf_laws.specs.Named as shelves
use Rattle.free_laws.specs.Named as spaces
use Rattle.free_laws.specs.Steps.{with_guards}
use Rattle.post_laws.specs.Named as posts
use Rattle.post_laws.specs.Posts.{locals_of}
use Rattle.pool_laws.specs.Wholes.{Whole, space_of, post_of}
use Rattle.pool_laws.specs.Changes.{with_pool, with_regions, with_space, with_ways}

abbrev pub fresh_whole : Key → Whole
fresh_whole k = record {
  pool = fresh_pool k;
  shelves = (shelves.fresh_state k).bins;
  jobs = (shelves.fresh_state k).jobs;
  desks = (regions.fresh_state k).desks;
  settled = (regions.fresh_state k).settled;
  office = (regions.fresh_state k).office;
  items = (spaces.fresh_space k).items;
  member = (spaces.fresh_space k).member;
  queued = (spaces.fresh_space k).queued;
  drained = (spaces.fresh_space k).drained;
  bins = (spaces.fresh_space k).bins;
  queue = (spaces.fresh_space k).queue;
  ways = (posts.fresh_post k).ways;
  mails = (posts.fresh_post k).mails;
  tasks = (posts.fresh_post k).tasks;
  spares = (posts.fresh_post k).spares;
}

-- the region that `region_laws` names, and no more
abbrev pub region_whole : Whole
region_whole = with_regions regions.named_state (fresh_whole ten_key)

abbrev pub cut_whole : Whole
cut_whole = with_space (with_guards (shadow_split 1 2 2 3 region_whole.pool.blocks) region_whole.pool.mem
    region_whole.pool.tasks (space_of region_whole)) region_whole

-- a step of mail
abbrev pub mailed : mailing.Shadow → Mem → mailing.Locals → Whole → Whole
mailed h m ml w = with_ways (record w.ways { mail = h }) m (with_mails ml (locals_of (post_of w))) w

abbrev pub mails_in : Whole → mailing.Locals
mails_in w = mail_locals (locals_of (post_of w))

-- the words of a slab that is to begin
abbrev pub begun_whole : Whole
begun_whole = mailed (mails.with_mail 2 (Mail.Begun 1) cut_whole.ways.mail) cut_whole.pool.mem
    (mails.with_task 1 (mailing.Task.Beginning 2 4) (mails_in cut_whole)) cut_whole

abbrev pub linked_whole : Whole
linked_whole = mailed begun_whole.ways.mail
    (after ten_key begun_whole.pool.mem (Store (Word.Next 2) (next_word (Next.Mailbox (key_by 1 4)))))
    (mails.with_task 1 (mailing.Task.Settled 2 4) (mails_in begun_whole)) begun_whole

abbrev pub cleared_whole : Whole
cleared_whole = mailed linked_whole.ways.mail
    (after ten_key linked_whole.pool.mem (Swap (Word.Public 2) (public_word Public.Null))) (mails_in linked_whole)
    linked_whole

abbrev pub owned_whole : Whole
owned_whole = with_ways cleared_whole.ways
    (after ten_key cleared_whole.pool.mem (Store (Word.Own 2) (own_word (Own.Kept 1))))
    (orphaning.with_task 1 (Task.Owning 2) (locals_of (post_of cleared_whole))) cleared_whole

abbrev pub slab_whole : Whole
slab_whole = record owned_whole {
  pool = pool_begun ten_key 1 2 4 owned_whole.pool;
  ways = with_way 2 Mail.Rest owned_whole.ways;
  mails = put owned_whole.mails 1 mailing.Task.Away;
  tasks = put owned_whole.tasks 1 Task.Away;
}

-- where the slab's first object begins
abbrev pub first_unit : ℕ
first_unit = 4088

abbrev pub resting_whole : Whole
resting_whole = with_pool (record slab_whole.pool {
  locals = rows.with_task 1 (Resting 2 first_unit) slab_whole.pool.locals;
}) slab_whole

abbrev pub named_whole : Whole
named_whole = with_pool (pool_rested ten_key 1 2 first_unit resting_whole.pool) resting_whole
