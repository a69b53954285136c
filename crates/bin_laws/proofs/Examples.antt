-- A new pool's bins, the bin that is named, and what the wrong definitions come to.
use Rattle.std.proofs.Common.{◌<◌, List, true, false, None, ◌∷◌, ◌++◌, ◌≡◌, ◌⊎◌, inl, inr, ℕ, [], refl, sym, ap}
use Rattle.std.proofs.Common.{subst, arith, ◌∙◌}
use Rattle.word_codes.specs.declared.guards.Guard.{Guard}
use Rattle.word_codes.specs.Guards.{guard_of}
use Rattle.guards.specs.declared.win.Side.{Side}
use Rattle.guards.specs.declared.win.Taking.{Taking}
use Rattle.locked_chain.specs.declared.insert.InsertAt.{InsertAt}
use Rattle.locked_chain.specs.Locks.{lock_course}
use Rattle.word_laws.specs.Memory.{put, fresh}
use Rattle.word_laws.proofs.CallerLemmas.{put-other, each}
use Rattle.chain_laws.specs.Chains.{tally}
use Rattle.chain_laws.specs.Named.{ten_key}
use Rattle.chain_laws.proofs.CallerLemmas.{tally-here, tally-append}
use Rattle.lock_laws.specs.Locks.{lock_by}
use Rattle.lock_laws.specs.Seats as seats
use Rattle.lock_laws.specs.Seats.{HasNot, ListsGood}
use Rattle.lock_laws.proofs.Examples.{fresh_locks_are_free}
use Rattle.lock_laws.proofs.CallerLemmas.{seats_take, seats_put}
use Rattle.guard_laws.specs.Blocks as blocks
use Rattle.guard_laws.specs.Blocks.{Use, Place, Standing, Piece, at_edge, edge_of, core_in, view_of, put_range}
use Rattle.guard_laws.specs.Blocks.{GuardGood}
use Rattle.guard_laws.specs.Named.{no_blocks}
use Rattle.guard_laws.proofs.CallerLemmas.{came, fresh_pools_have_no_blocks, zero_reads, range_each}
use Rattle.bin_laws.specs.Bins.{Shadow}
use Rattle.backend_bins.specs.declared.blocks.Want.{Want}
use Rattle.backend_bins.specs.Blocks.{block, fits}
use Rattle.bin_laws.specs.Bins.{bin_words, Task, list_task, won_of, coming_of, cut_of, Member, IsMember, MembersFit}
use Rattle.bin_laws.specs.Bins.{in_bin}
use Rattle.bin_laws.specs.Named.{locked_memory, won_block, named_bins, named_tasks}
use Rattle.bin_laws.specs.Laws.{FreshBinsAreEmpty, NamedBinStands}
use Rattle.bin_laws.specs.Wrong.{EarlyFreesAreWrong, ListedJoinsAreWrong, ForgottenNotesAreWrong}
use Rattle.bin_laws.proofs.Words.{lock_is_other, bins_are}
use Rattle.bin_laws.proofs.Guarded.{guards_stay, with_list}

pub fresh_bins_are_empty : FreshBinsAreEmpty
fresh_bins_are_empty k small = record {
  guards = fresh_pools_have_no_blocks k small;
  lists = fresh_locks_are_free k bin_words;
  once = λ b x. refl;
  members = record {
    bin_is = λ x n f. absurd (cc);
    is_bin = λ x n h. absurd h;
    won_is = λ t x n w. absurd (cc);
    coming_is = λ t x n w. absurd (cc);
    is_coming = λ t x n w. absurd (cc);
    cut_is = λ t x n w. absurd (cc);
  };
}

fresh_good : GuardGood ten_key no_blocks (core_in fresh (λ seat. blocks.Task.Away))
fresh_good = fresh_pools_have_no_blocks ten_key (omega arith)

used_at : (e : Side)
    → guard_of (at_edge (core_in fresh (λ seat. blocks.Task.Away)).words e (edge_of e 3 2)) ≡ Guard.Used
used_at Side.Begin = zero_reads
used_at Side.End = zero_reads

won_good : GuardGood ten_key won_block (core_in locked_memory (λ seat. blocks.Task.Away))
won_good = guards_stay ten_key 1 won_block fresh (λ seat. blocks.Task.Away) (lock_course (lock_by bin_words.lock 1 1))
    (lock_is_other 1 1) (record {
      small = fresh_good.small;
      parts = came 10 (view_of no_blocks (core_in fresh (λ seat. blocks.Task.Away))) 0 3 2 (omega arith) (omega arith)
          (λ z low high. refl) used_at fresh_good.parts;
      calls = fresh_good.calls;
    })

-- the first task
abbrev won_task : ℕ → Task
won_task = put (λ seat. Task.Away) 0 (Task.Won 3 2)

abbrev links : Task
links = Task.Links 3 2 InsertAt.Head

lists_away : (j : ℕ) → seats.Task.Away ≡ list_task (won_task j)
lists_away = each (λ _ q. seats.Task.Away ≡ list_task q) (λ seat. Task.Away) 0 (Task.Won 3 2) (λ _ _. refl) refl

named_lists : ListsGood ten_key bin_words locked_memory (λ j. list_task (named_tasks.bins j)) (λ b. [])
named_lists = with_list ten_key locked_memory won_task (λ b. []) 1 links
    (seats.Task.Inserting 1 3 InsertAt.Head) refl
    (subst (λ (f : ℕ → seats.Task). ListsGood ten_key bin_words locked_memory
    (put f 1 (seats.Task.Inserting 1 3 InsertAt.Head)) (λ b. [])) away
    (subst (λ (f : ℕ → seats.Task). ListsGood ten_key bin_words locked_memory f (λ b. [])) twice
    (seats_put ten_key bin_words locked_memory has (λ b. []) 1 1 3 (bins_are ten_key (omega arith)) refl (omega arith)
    (λ c. refl) (each (λ _ q. HasNot 3 q) (λ seat. seats.Task.Away) 1 (seats.Task.Has 1) (λ _ _. tt) tt)
    (seats_take ten_key bin_words fresh (λ seat. seats.Task.Away) (λ b. []) 1 1 (bins_are ten_key (omega arith))
    (omega arith) refl (fresh_locks_are_free ten_key bin_words)))))
  where
    has : ℕ → seats.Task
    has = put (λ seat. seats.Task.Away) 1 (seats.Task.Has 1)

    away : ◌≡◌ {A = ℕ → seats.Task} (λ seat. seats.Task.Away) (λ j. list_task (won_task j))
    away i j = lists_away j i

    twice : ◌≡◌ {A = ℕ → seats.Task} (put has 1 (seats.Task.Inserting 1 3 InsertAt.Head))
        (put (λ seat. seats.Task.Away) 1 (seats.Task.Inserting 1 3 InsertAt.Head))
    twice i j = each (λ y q. q ≡ put (λ seat. seats.Task.Away) 1 (seats.Task.Inserting 1 3 InsertAt.Head) y) has 1
        (seats.Task.Inserting 1 3 InsertAt.Head)
        (λ y ne. put-other (λ seat. seats.Task.Away) 1 (seats.Task.Has 1) y ne
        ∙ sym (put-other (λ seat. seats.Task.Away) 1 (seats.Task.Inserting 1 3 InsertAt.Head) y ne)) refl j i

-- who has won a block, and whose block comes
won_by : (t x n : ℕ) → won_of (named_tasks.bins t) ≡ Piece.Got x n → (t ≡ 0) × (Piece.Got 3 2 ≡ Piece.Got x n)
won_by t x n = each (λ o q. won_of q ≡ Piece.Got x n → (o ≡ 0) × (Piece.Got 3 2 ≡ Piece.Got x n)) won_task 1 links
    (λ o _. each (λ o q. won_of q ≡ Piece.Got x n → (o ≡ 0) × (Piece.Got 3 2 ≡ Piece.Got x n)) (λ seat. Task.Away) 0
    (Task.Won 3 2) (λ _ _ w. absurd (cc)) (λ w. (refl, w)) o) (λ w. absurd (cc)) t

comes_from : (t x n : ℕ) → coming_of (named_tasks.bins t) ≡ Piece.Got x n → (t ≡ 1) × (Piece.Got 3 2 ≡ Piece.Got x n)
comes_from t x n = each (λ o q. coming_of q ≡ Piece.Got x n → (o ≡ 1) ×
    (Piece.Got 3 2 ≡ Piece.Got x n)) won_task 1 links
    (λ o _. each (λ o q. coming_of q ≡ Piece.Got x n → (o ≡ 1) × (Piece.Got 3 2 ≡ Piece.Got x n)) (λ seat. Task.Away) 0
    (Task.Won 3 2) (λ _ _ w. absurd (cc)) (λ w. absurd (cc)) o) (λ w. (refl, w)) t

none_cut : (t x n : ℕ) → cut_of (named_tasks.bins t) ≡ Piece.Got x n → ⊥
none_cut t x n = each (λ o q. cut_of q ≡ Piece.Got x n → ⊥) won_task 1 links
    (λ o _. each (λ o q. cut_of q ≡ Piece.Got x n → ⊥) (λ seat. Task.Away) 0 (Task.Won 3 2) (λ _ _ w. cc) (λ w. cc) o)
    (λ w. cc) t

member_of : (x n : ℕ) → IsMember n (named_bins.member x) → (3 ≡ x) × (2 ≡ n)
member_of x n = each (λ y b. IsMember n b → (3 ≡ y) × (2 ≡ n)) (λ x. Member.Out) 3 (Member.Comes 2 1)
    (λ _ _ h. absurd h)
    (λ h. (refl, h)) x

named_members : MembersFit won_block.place (λ j. won_of (named_tasks.bins j)) (λ j. coming_of (named_tasks.bins j))
    (λ j. cut_of (named_tasks.bins j)) named_bins.member
named_members = record {
  bin_is = λ x n f. absurd (no_bin x n f);
  is_bin = λ x n h. let q = member_of x n h in inr (
    0,
    Taking.ForUse,
    subst (λ b. won_block.place b ≡ Place.Block b n (Use.Held 0 Taking.ForUse)) q.0
        (subst (λ b. won_block.place 3 ≡ Place.Block 3 b (Use.Held 0 Taking.ForUse)) q.1 refl),
    ap (λ b. Piece.Got b 2) q.0 ∙ ap (Piece.Got x) q.1,
  );
  won_is = λ t x n w. won t x n (won_by t x n w).0 (won_by t x n w).1;
  coming_is = λ t x n w. coming t x n (comes_from t x n w).0 (comes_from t x n w).1;
  is_coming = λ t x n. each (λ y b. b ≡ Member.Comes n t → coming_of (named_tasks.bins t) ≡ Piece.Got y n)
      (λ x. Member.Out) 3 (Member.Comes 2 1) (λ _ _ c. absurd (cc))
      (λ c. let q0 : 2 ≡ n = cc in let q1 : 1 ≡ t = cc in
      ap (λ b. coming_of (named_tasks.bins b)) (sym q1) ∙ ap (Piece.Got 3) q0) x;
  cut_is = λ t x n w. absurd (none_cut t x n w);
}
  where
    no_bin : (x n : ℕ) → won_block.place x ≡ Place.Block x n Use.Bin → ⊥
    no_bin x n = range_each (λ y p. p ≡ Place.Block y n Use.Bin → ⊥) (λ y. Place.Outside) 3 2
        (Place.Block 3 2 (Use.Held 0 Taking.ForUse)) (λ _ _ f. cc) (λ _ _ _ f. cc) x

    won : (t x n : ℕ) → t ≡ 0 → Piece.Got 3 2 ≡ Piece.Got x n
        → ((j : Taking) × (won_block.place x ≡ Place.Block x n (Use.Held t j))) × IsMember n (named_bins.member x)
    won t x n same q =
        let q0 : 3 ≡ x = cc in let q1 : 2 ≡ n = cc in
        subst (λ o. ((j : Taking) × (won_block.place x ≡ Place.Block x n (Use.Held o j)))
        × IsMember n (named_bins.member x)) (sym same)
        (subst (λ b. ((j : Taking) × (won_block.place b ≡ Place.Block b n (Use.Held 0 j)))
        × IsMember n (named_bins.member b)) q0
        (subst (λ b. ((j : Taking) × (won_block.place 3 ≡ Place.Block 3 b (Use.Held 0 j)))
        × IsMember b (named_bins.member 3)) q1 ((Taking.ForUse, refl), refl)))

    coming : (t x n : ℕ) → t ≡ 1 → Piece.Got 3 2 ≡ Piece.Got x n → named_bins.member x ≡ Member.Comes n t
    coming t x n same q =
        let q0 : 3 ≡ x = cc in let q1 : 2 ≡ n = cc in
        ap named_bins.member (sym q0) ∙ ap (λ b. Member.Comes b 1) q1 ∙ ap (Member.Comes n) (sym same)

pub named_bin_stands : NamedBinStands
named_bin_stands = record {
  guards = won_good;
  lists = named_lists;
  once = λ b. each (λ x q. 0 ≡ in_bin b q) (λ x. Member.Out) 3 (Member.Comes 2 1) (λ _ _. refl)
      refl;
  members = named_members;
}

pub early_frees_are_wrong : EarlyFreesAreWrong
early_frees_are_wrong frees =
    let good = frees ten_key 1 named_bins locked_memory named_tasks 3 2 refl named_bin_stands in
    let q : Piece.NoPiece ≡ Piece.Got 3 2 = good.members.is_coming 1 3 2 refl in cc

pub listed_joins_are_wrong : ListedJoinsAreWrong
listed_joins_are_wrong joins =
    let good = joins ten_key 0 named_bins locked_memory named_tasks 3 2 refl named_bin_stands in
    go (good.members.is_bin 3 2 refl)
  where
    none : (t : ℕ) → won_of (put named_tasks.bins 0 Task.Away t) ≡ Piece.Got 3 2 → ⊥
    none = each (λ o q. won_of q ≡ Piece.Got 3 2 → ⊥) named_tasks.bins 0 Task.Away
        (λ o ne w. ne (won_by o 3 2 w).0) (λ w. cc)

    go : (won_block.place 3 ≡ Place.Block 3 2 Use.Bin)
        ⊎ ((t : ℕ) × (taking : Taking) × (won_block.place 3 ≡ Place.Block 3 2 (Use.Held t taking))
        × (won_of (put named_tasks.bins 0 Task.Away t) ≡ Piece.Got 3 2)) → ⊥
    go (inl f) = let q : Place.Block 3 2 (Use.Held 0 Taking.ForUse) ≡ Place.Block 3 2 Use.Bin = f in absurd (cc)
    go (inr (t, taking, f, w)) = none t w

-- a bin of one block, of two granules, all of which are wanted
abbrev one_listed : Shadow
one_listed = record { guards = no_blocks; items = λ b. 3 ∷ []; member = λ x. Member.In 2 }

abbrev two_wanted : Want
two_wanted = record { granules = 2; slab = false }

two_fit : fits two_wanted (block 3 2) ≡ true
two_fit = refl

last_of_all : (front rest : List ℕ) → 3 ∷ [] ≡ front ++ (3 ∷ rest) → 0 < tally 3 (front ++ 3 ∷ [])
last_of_all front rest is =
    let a = tally-append 3 front (3 ∷ []) in let b = tally-here 3 [] in omega arith

pub forgotten_notes_are_wrong : ForgottenNotesAreWrong
forgotten_notes_are_wrong forgets =
    let passes = forgets one_listed two_wanted 1 None 3 (record {
      front = [];
      rest = [];
      items = refl;
      none = λ _ x n some is. absurd (omega arith);
    }) in
    let q : true ≡ false = sym two_fit
    ∙ passes.none refl 3 2 (last_of_all passes.front passes.rest passes.items) refl in cc
