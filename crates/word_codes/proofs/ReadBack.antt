-- What is written reads back, kind by kind.
use Rattle.std.proofs.Common.{◌≡◌, ℕ, ◌+◌, ◌*◌, ◌/◌, ◌%◌, ◌^◌, ◌<◌, refl, ap, arith, Option, Some, None, suc}
use Rattle.std.proofs.lemmas.Bool.Decides.{nat_tests}
use Rattle.word_codes.specs.declared.marks.Mark.TheVariants as mark
use Rattle.word_codes.specs.declared.kinds.Kind.TheVariants as kind
use Rattle.word_codes.specs.declared.owns.Own.TheVariants as own
use Rattle.word_codes.specs.declared.publics.Public.TheVariants as public
use Rattle.word_codes.specs.declared.nexts.Next.TheVariants as next
use Rattle.word_codes.specs.declared.guards.Guard.TheVariants as guard
use Rattle.word_codes.specs.declared.queue_links.QueueLink.{QueueLink}
use Rattle.pool_types.specs.Sums.{capped}
use Rattle.word_codes.specs.Marks.{mark_of, mark_word}
use Rattle.word_codes.specs.Kinds.{kind_of, kind_word}
use Rattle.word_codes.specs.Owns.{own_of, own_word}
use Rattle.word_codes.specs.Publics.{public_of, public_word}
use Rattle.word_codes.specs.Nexts.{next_of, next_word, FitsNextLink}
use Rattle.word_codes.specs.Guards.{guard_of, guard_word}
use Rattle.word_codes.specs.Links.{link_of, link_word, FitsLink}
use Rattle.word_codes.specs.QueueLinks.{queue_link_of, queue_link_word, FitsQueueNext}
use Rattle.word_codes.specs.Locks.{holder_of, lock_word}
use Rattle.word_codes.specs.Laws.{MarksReadBack, KindsReadBack, OwnsReadBack, PublicsReadBack, NextsReadBack, GuardsReadBack, LinksReadBack, QueueLinksReadBack, LocksReadBack}

pub granted_back : (s n : ℕ) → s < 64 → n < 2 ^ 55 →
    mark_of (mark_word (mark.Granted (record { seat = s; number = n })))
    ≡ mark.Granted (record { seat = s; number = n })
unfolding mark_of mark_word
granted_back s n a b =
    let t : (1 + 8 * (s % 64) + 512 * (n % 2 ^ 55)) % 8 ≡ 1 = omega arith in
    let x : (1 + 8 * (s % 64) + 512 * (n % 2 ^ 55)) / 8 % 64 ≡ s = omega arith in
    let y : (1 + 8 * (s % 64) + 512 * (n % 2 ^ 55)) / 512 ≡ n = omega arith in
    grind (arith, nat_tests, t, x, y)

pub hand_back : (s : ℕ) → s < 64 → mark_of (mark_word (mark.Hand s)) ≡ mark.Hand s
unfolding mark_of mark_word
hand_back s a =
    let t : (2 + 8 * (s % 64)) % 8 ≡ 2 = omega arith in
    let x : (2 + 8 * (s % 64)) / 8 % 64 ≡ s = omega arith in
    grind (arith, nat_tests, t, x)

pub link_back : (u : ℕ) → u < 2 ^ 61 → mark_of (mark_word (mark.Link u)) ≡ mark.Link u
unfolding mark_of mark_word
link_back u a =
    let t : (3 + 8 * (u % 2 ^ 61)) % 8 ≡ 3 = omega arith in
    let x : (3 + 8 * (u % 2 ^ 61)) / 8 ≡ u = omega arith in
    grind (arith, nat_tests, t, x)

pub marks_read_back : MarksReadBack
unfolding mark_of mark_word
marks_read_back mark.Unmarked h = refl
marks_read_back (mark.Granted g) h = granted_back g.seat g.number h.0 h.1
marks_read_back (mark.Hand s) h = hand_back s h
marks_read_back (mark.Link u) h = link_back u h
marks_read_back mark.End h = refl
marks_read_back mark.EndUnusable h = refl

pub slab_back : (c : ℕ) → c < 256 → kind_of (kind_word (kind.Slab c)) ≡ kind.Slab c
unfolding kind_of kind_word
slab_back c a =
    let t : (1 + 8 * c) % 8 ≡ 1 = omega arith in
    let x : (1 + 8 * c) / 8 % 256 ≡ c = omega arith in
    grind (arith, nat_tests, t, x)

pub large_back : (x n : ℕ) → x < 2 ^ 16 → n < 2 ^ 45 → kind_of (kind_word (kind.Large x n)) ≡ kind.Large x n
unfolding kind_of kind_word
large_back x n a b =
    let t : (3 + 8 * (x % 2 ^ 16) + 2 ^ 19 * (n % 2 ^ 45)) % 8 ≡ 3 = omega arith in
    let y : (3 + 8 * (x % 2 ^ 16) + 2 ^ 19 * (n % 2 ^ 45)) / 8 % 2 ^ 16 ≡ x = omega arith in
    let z : (3 + 8 * (x % 2 ^ 16) + 2 ^ 19 * (n % 2 ^ 45)) / 2 ^ 19 ≡ n = omega arith in
    grind (arith, nat_tests, t, y, z)

pub kinds_read_back : KindsReadBack
unfolding kind_of kind_word
kinds_read_back kind.Nothing h = refl
kinds_read_back (kind.Slab c) h = slab_back c h
kinds_read_back kind.CachedSlab h = refl
kinds_read_back (kind.Large x n) h = large_back x n h.0 h.1

pub owns_read_back : OwnsReadBack
unfolding own_of own_word
owns_read_back own.Nobody h = refl
owns_read_back own.Orphan h = refl
owns_read_back (own.Kept s) h =
    let two : 2 + s ≡ suc (suc s) = omega arith in
    let e : s % 256 ≡ s = omega arith in
    rw two (ap own.Kept e)

pub publics_read_back : PublicsReadBack
unfolding public_of public_word
publics_read_back public.Null h = refl
publics_read_back public.Unusable h = refl
publics_read_back (public.Filled u) h = let e : capped (u + 2) ≡ suc (suc u) = omega arith in rw e refl

pub guards_read_back : GuardsReadBack
unfolding guard_of guard_word
guards_read_back guard.Used h = refl
guards_read_back guard.Coalescing h = refl
guards_read_back guard.Wall h = refl
guards_read_back (guard.Free n) h = let e : capped (n + 3) ≡ suc (suc (suc n)) = omega arith in rw e refl

pub links_read_back : LinksReadBack
unfolding link_of link_word
links_read_back None h = refl
links_read_back (Some i) h = let e : capped (i + 1) ≡ suc i = omega arith in rw e refl

-- the word of a link is below a bound that an item below it, and 1, is
pub link_fits : (item : Option ℕ) → FitsQueueNext item → link_word item < 2 ^ 32
unfolding link_word
link_fits None h = omega arith
link_fits (Some i) h = omega (arith, h)

pub queue_fits : (item : Option ℕ) → FitsQueueNext item → FitsLink item
queue_fits None h = h
queue_fits (Some i) h = omega (arith, h)

pub queue_link_back : (q : QueueLink) → FitsQueueNext q.next → q.granules < 2 ^ 32 →
    queue_link_of (queue_link_word q) ≡ q
unfolding queue_link_of queue_link_word
queue_link_back q h a =
    let l : link_word q.next < 2 ^ 32 = link_fits q.next h in
    let x : (link_word q.next % 2 ^ 32 + 2 ^ 32 * (q.granules % 2 ^ 32)) % 2 ^ 32 ≡ link_word q.next = omega arith in
    let y : (link_word q.next % 2 ^ 32 + 2 ^ 32 * (q.granules % 2 ^ 32)) / 2 ^ 32 ≡ q.granules = omega arith in
    let z : link_of (link_word q.next) ≡ q.next = links_read_back q.next (queue_fits q.next h) in
    grind (arith, x, y, z)

pub queue_links_read_back : QueueLinksReadBack
queue_links_read_back q h = queue_link_back q h.0 h.1

pub locks_read_back : LocksReadBack
unfolding holder_of lock_word
locks_read_back s h = let e : s % 256 ≡ s = omega arith in grind (arith, e)

pub mailbox_back : (s c : ℕ) → s < 256 → c < 256 →
    next_of (next_word (next.Mailbox (record { seat = s; class = c }))) ≡ next.Mailbox (record { seat = s; class = c })
unfolding next_of next_word
mailbox_back s c a b =
    let t : (1 + 2 * s + 512 * c) % 2 ≡ 1 = omega arith in
    let x : (1 + 2 * s + 512 * c) / 2 % 256 ≡ s = omega arith in
    let y : (1 + 2 * s + 512 * c) / 512 % 256 ≡ c = omega arith in
    grind (arith, nat_tests, t, x, y)

pub next_fits : (item : Option ℕ) → FitsNextLink item → link_word item < 2 ^ 63
unfolding link_word
next_fits None h = omega arith
next_fits (Some i) h = omega (arith, h)

pub next_link_fits : (item : Option ℕ) → FitsNextLink item → FitsLink item
next_link_fits None h = h
next_link_fits (Some i) h = omega (arith, h)

pub next_link_back : (item : Option ℕ) → FitsNextLink item → next_of (next_word (next.Link item)) ≡ next.Link item
unfolding next_of next_word
next_link_back item h =
    let l : link_word item < 2 ^ 63 = next_fits item h in
    let t : 2 * (link_word item % 2 ^ 63) % 2 ≡ 0 = omega arith in
    let x : 2 * (link_word item % 2 ^ 63) / 2 ≡ link_word item = omega arith in
    let z : link_of (link_word item) ≡ item = links_read_back item (next_link_fits item h) in
    grind (arith, nat_tests, t, x, z)

pub nexts_read_back : NextsReadBack
nexts_read_back (next.Mailbox k) h = mailbox_back k.seat k.class h.0 h.1
nexts_read_back (next.Link item) h = next_link_back item h
