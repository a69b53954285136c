-- A new pool's queue, the queue that is named, and what the wrong definition comes to.
use Rattle.std.proofs.Common.{◌≡◌, ◌≢◌, ℕ, ◌<◌, Some, None, [], ◌∷◌, refl, sym, ap, subst, arith}
use Rattle.std.proofs.Common.{◌∙◌}
use Rattle.word_codes.specs.declared.guards.Guard.{Guard}
use Rattle.word_codes.specs.Guards.{guard_of, guard_word}
use Rattle.word_codes.specs.Links.{link_word}
use Rattle.word_codes.proofs.CallerLemmas.{guards_read_back, queue_links_read_back}
use Rattle.guards.specs.declared.win.Side.{Side}
use Rattle.guards.specs.declared.win.Taking.{Taking}
use Rattle.chain_words.specs.declared.pushing.PushAt.{PushAt}
use Rattle.word_laws.specs.Memory.{fresh}
use Rattle.word_laws.proofs.CallerLemmas.{equal_or, each}
use Rattle.chain_laws.specs.Chains.{Link, tally}
use Rattle.chain_laws.specs.Pushing.{links_of}
use Rattle.chain_laws.specs.Seats.{PusherFits, IsAwayFrom, AreAway, ChainGood}
use Rattle.chain_laws.specs.Named.{ten_key}
use Rattle.chain_laws.proofs.CallerLemmas.{tally-else}
use Rattle.chain_laws.proofs.Examples.{fresh_chains_are_empty}
use Rattle.lock_laws.specs.Steps.{link_to}
use Rattle.lock_laws.proofs.CallerLemmas.{link_at-item, link_at-end}
use Rattle.guard_laws.specs.Blocks as blocks
use Rattle.guard_laws.specs.Blocks.{Use, Place, Standing, Half, Piece, Edges, at_edge, set_edge, edge_of, View, view_of}
use Rattle.guard_laws.specs.Blocks.{IsShut, core_in, put_range, Parts, GuardGood}
use Rattle.guard_laws.specs.Named.{no_blocks}
use Rattle.guard_laws.specs.Steps.{with_use, with_edges}
use Rattle.guard_laws.proofs.CallerLemmas.{range_each, came, cut, reused, word_marked, fresh_pools_have_no_blocks}
use Rattle.guard_laws.proofs.CallerLemmas.{zero_reads}
use Rattle.queue_laws.specs.Queue.{told, queue_words, can_tell, Task, pusher_of, rest_of, TaskFits}
use Rattle.queue_laws.specs.Named.{cut_blocks, first_joining, both_joining, queued_blocks, one_queued}
use Rattle.queue_laws.specs.Named.{one_memory, one_queues}
use Rattle.queue_laws.specs.Laws.{FreshQueuesAreEmpty, NamedQueueStands}
use Rattle.queue_laws.specs.Wrong.{StoredPushesAreWrong}
use Rattle.queue_laws.proofs.Words.{told_back, told_low, filled_low, may_push, head_leaves_links}

pub fresh_queues_are_empty : FreshQueuesAreEmpty
fresh_queues_are_empty k small = record {
  guards = fresh_pools_have_no_blocks k small;
  chain = fresh_chains_are_empty k queue_words can_tell 0 link_at-end refl;
  queued_is = λ x some. absurd (omega arith);
  is_queued = λ x n f. absurd (cc);
  drains = λ t. refl;
  drained_is = λ t x some. absurd (omega arith);
  tasks = λ t. tt;
}

by_side : (P : Side → Type 0) → P Side.Begin → P Side.End → (e : Side) → P e
by_side P a b Side.Begin = a
by_side P a b Side.End = b

abbrev joins : ℕ
joins = guard_word Guard.Coalescing

abbrev no_words : Edges ℕ
no_words = (core_in fresh (λ seat. blocks.Task.Away)).words

abbrev first_words : Edges ℕ
first_words = set_edge Side.End 5 joins (set_edge Side.Begin 2 joins no_words)

abbrev both_words : Edges ℕ
both_words = set_edge Side.End 7 joins (set_edge Side.Begin 5 joins first_words)

abbrev seen : blocks.Shadow → Edges ℕ → View
seen g words = record {
  place = g.place;
  standing = g.standing;
  words = words;
  halves = λ j. Half.NoHalf;
  pieces = λ j. Piece.NoPiece;
}

cut_parts : Parts 10 (seen cut_blocks no_words)
cut_parts =
    cut 10 (seen (with_use 2 5 (Use.Held 0 Taking.ForUse) (with_edges 2 5 Standing.Resting no_blocks)) no_words) 0 2 3 2
    (omega arith) (omega arith) refl refl
    (by_side (λ e. guard_of (at_edge no_words e 5) ≡ Guard.Used) zero_reads zero_reads)
    (came 10 (seen no_blocks no_words) 0 2 5 (omega arith) (omega arith) (λ z low high. refl)
    (by_side (λ e. guard_of (at_edge no_words e (edge_of e 2 5)) ≡ Guard.Used) zero_reads zero_reads)
    (fresh_pools_have_no_blocks ten_key (omega arith)).parts)

zero_is_shut : IsShut (guard_of 0)
zero_is_shut = subst IsShut (sym zero_reads) tt

joins_reads : guard_of joins ≡ Guard.Coalescing
joins_reads = guards_read_back Guard.Coalescing tt

joins_is_shut : IsShut (guard_of joins)
joins_is_shut = subst IsShut (sym joins_reads) tt

first_parts : Parts 10 (seen first_joining no_words)
first_parts = reused 10 (seen cut_blocks no_words) 2 3 (Use.Held 0 Taking.ForUse) (Use.Held 0 Taking.ToJoin)
    (λ q. cc) refl
    (λ q. cc) (by_side (λ e. IsShut (guard_of (at_edge no_words e
    (edge_of e 2 3)))) zero_is_shut zero_is_shut) cut_parts

both_parts : Parts 10 (seen both_joining first_words)
both_parts =
    reused 10 (seen first_joining first_words) 5 2 (Use.Held 0 Taking.ForUse) (Use.Held 0 Taking.ToJoin) (λ q. cc) refl
    (λ q. cc) (by_side (λ e. IsShut (guard_of (at_edge first_words e (edge_of e 5 2)))) zero_is_shut zero_is_shut)
    (word_marked 10 (seen first_joining (set_edge Side.Begin 2 joins no_words)) Side.End 5 joins joins_is_shut
    (word_marked 10 (seen first_joining no_words) Side.Begin 2 joins joins_is_shut first_parts))

queued_parts : Parts 10 (seen queued_blocks both_words)
queued_parts =
    reused 10 (seen both_joining both_words) 2 3 (Use.Held 0 Taking.ToJoin) Use.Queued (λ q. cc) refl (λ q. cc)
    (by_side (λ e. guard_of (at_edge both_words e (edge_of e 2 3)) ≡ Guard.Coalescing) joins_reads joins_reads)
    (word_marked 10 (seen both_joining (set_edge Side.Begin 5 joins first_words)) Side.End 7 joins joins_is_shut
    (word_marked 10 (seen both_joining first_words) Side.Begin 5 joins joins_is_shut both_parts))

named_good : GuardGood ten_key queued_blocks (core_in one_memory (λ seat. blocks.Task.Away))
named_good = record { small = omega arith; parts = queued_parts; calls = λ seat. tt }

first_leads : links_of queue_words one_memory 2 ≡ Link.Ends 0
first_leads = ap (λ q. link_to q.next) (queue_links_read_back (record { next = None; granules = 3 }) (tt, omega arith))

second_leads : links_of queue_words one_memory 5 ≡ Link.Ends 0
second_leads = ap (λ q. link_to q.next) (queue_links_read_back (record { next = None; granules = 2 }) (tt, omega arith))

named_chain : ChainGood ten_key queue_words can_tell one_memory (λ t. pusher_of (one_queues.queue t)) (2 ∷ []) 0
named_chain = record {
  chain = (link_at-item 2 (omega arith), first_leads);
  head = told_low (link_word (Some 2)) (filled_low 2 (omega arith));
  pushing = each (λ t q. PusherFits ten_key queue_words can_tell (2 ∷ []) one_memory (pusher_of q))
      (λ seat. Task.Away) 0
      (Task.Queues 5 2 (PushAt.Exchange 0)) (λ _ _. tt)
      (may_push ten_key (2 ∷ []) 5 2 (omega arith) (omega arith) (omega arith) refl, second_leads ∙ sym link_at-end);
  apart = each (λ t q. (o : ℕ) → t ≢ o → AreAway (pusher_of q) (pusher_of (one_queues.queue o))) (λ seat. Task.Away) 0
      (Task.Queues 5 2 (PushAt.Exchange 0)) (λ _ _ _ _. tt)
      (each (λ o q. 0 ≢ o → IsAwayFrom 5 (pusher_of q)) (λ seat. Task.Away) 0 (Task.Queues 5 2 (PushAt.Exchange 0))
      (λ _ _ _. tt) (λ ne. absurd (ne refl)));
}

one_is_queued : (x n : ℕ) → queued_blocks.place x ≡ Place.Block x n Use.Queued → 0 < tally x (2 ∷ [])
one_is_queued x n = range_each (λ y p. p ≡ Place.Block y n Use.Queued → 0 < tally y (2 ∷ [])) both_joining.place 2 3
    (Place.Block 2 3 Use.Queued)
    (λ y _ f. absurd (both y f))
    (λ y _ _ f. let q : 2 ≡ y = cc in subst (λ b. 0 < tally b (2 ∷ [])) q (omega arith)) x
  where
    region : (y : ℕ) → put_range (λ z. Place.Outside) 2 5 (Place.Block 2 5 (Use.Held 0 Taking.ForUse)) y
        ≡ Place.Block y n Use.Queued → ⊥
    region = range_each (λ y p. p ≡ Place.Block y n Use.Queued → ⊥) (λ z. Place.Outside) 2 5
        (Place.Block 2 5 (Use.Held 0 Taking.ForUse)) (λ _ _ f. absurd (cc)) (λ _ _ _ f. absurd (cc))

    pieces : (y : ℕ) → cut_blocks.place y ≡ Place.Block y n Use.Queued → ⊥
    pieces = range_each (λ y p. p ≡ Place.Block y n Use.Queued → ⊥)
        (put_range (put_range (λ z. Place.Outside) 2 5 (Place.Block 2 5 (Use.Held 0 Taking.ForUse))) 2 3
        (Place.Block 2 3 (Use.Held 0 Taking.ForUse))) 5 2 (Place.Block 5 2 (Use.Held 0 Taking.ForUse))
        (λ y _. range_each (λ y p. p ≡ Place.Block y n Use.Queued → ⊥)
        (put_range (λ z. Place.Outside) 2 5 (Place.Block 2 5 (Use.Held 0 Taking.ForUse))) 2 3
        (Place.Block 2 3 (Use.Held 0 Taking.ForUse)) (λ y _. region y) (λ _ _ _ f. absurd (cc)) y)
        (λ _ _ _ f. absurd (cc))

    first : (y : ℕ) → first_joining.place y ≡ Place.Block y n Use.Queued → ⊥
    first = range_each (λ y p. p ≡ Place.Block y n Use.Queued → ⊥) cut_blocks.place 2 3
        (Place.Block 2 3 (Use.Held 0 Taking.ToJoin)) (λ y _. pieces y) (λ _ _ _ f. absurd (cc))

    both : (y : ℕ) → both_joining.place y ≡ Place.Block y n Use.Queued → ⊥
    both = range_each (λ y p. p ≡ Place.Block y n Use.Queued → ⊥) first_joining.place 5 2
        (Place.Block 5 2 (Use.Held 0 Taking.ToJoin)) (λ y _. first y) (λ _ _ _ f. absurd (cc))

pub named_queue_stands : NamedQueueStands
named_queue_stands = record {
  guards = named_good;
  chain = named_chain;
  queued_is = λ x some. equal_or x 2
      (λ same. subst (λ b. queued_blocks.place b ≡ Place.Block b (told one_memory b) Use.Queued) (sym same)
      (ap (λ n. Place.Block 2 n Use.Queued) (sym (told_back None 3 (omega arith)))))
      (λ ne. absurd (let e = tally-else x 2 [] ne in omega arith));
  is_queued = one_is_queued;
  drains = each (λ t q. rest_of q ≡ Link.Ends 0) (λ seat. Task.Away) 0
      (Task.Queues 5 2 (PushAt.Exchange 0)) (λ _ _. refl) refl;
  drained_is = λ t x some. absurd (omega arith);
  tasks = each (λ t q. TaskFits queued_blocks one_memory t q) (λ seat. Task.Away) 0
      (Task.Queues 5 2 (PushAt.Exchange 0)) (λ _ _. tt) (record {
        hand = refl;
        stands = by_side (λ e. at_edge queued_blocks.standing e (edge_of e 5 2) ≡ Standing.Joining) refl refl;
        guards = by_side (λ e. guard_of (at_edge both_words e (edge_of e 5 2)) ≡ Guard.Coalescing) joins_reads
            joins_reads;
        link = told_back None 2 (omega arith);
      });
}

pub stored_pushes_are_wrong : StoredPushesAreWrong
stored_pushes_are_wrong pushes =
    let good = pushes ten_key 0 one_queued one_memory one_queues 5 2 0 refl refl named_queue_stands in
    let leads = good.chain.chain.1.0 in
    let same = head_leaves_links ten_key one_memory (link_word (Some 5)) in
    let q : Link.Ends 0 ≡ Link.To 2 =
    sym second_leads ∙ sym (ap (λ f. queue_words.reads_link (f 5)) same) ∙ leads in cc
