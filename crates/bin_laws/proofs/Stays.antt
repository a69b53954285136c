-- A list whose lock a seat has stays while others step.
use Rattle.std.proofs.Common.{◌≡◌, ◌≢◌, ℕ, ◌<◌, Some, refl, sym, ap, arith, ◌∙◌}
use Rattle.locked_chain.specs.declared.insert.InsertNext.{InsertNext}
use Rattle.locked_chain.specs.declared.remove.RemoveAt.{RemoveAt}
use Rattle.locked_chain.specs.Insert.{insert_course, insert_learn}
use Rattle.backend_bins.specs.Blocks.{bin_of}
use Rattle.word_laws.specs.Memory.{put, found}
use Rattle.word_laws.proofs.CallerLemmas.{put-other, put_else}
use Rattle.chain_laws.specs.Chains.{tally}
use Rattle.lock_laws.specs.Seats.{lock_in, list_call, items_inserted, items_removed}
use Rattle.guard_laws.specs.Blocks as blocks
use Rattle.guard_laws.specs.Blocks.{Piece}
use Rattle.bin_laws.specs.Bins.{bin_words, Task, list_task, won_of, coming_of, cut_of, Member, in_bin, Shadow}
use Rattle.bin_laws.specs.Steps.{member_linked, member_unlinked, BinStep}
use Rattle.bin_laws.specs.Laws.{ListStays, OthersLeaveLockedLists}
use Rattle.bin_laws.proofs.Guarded.{one_lock, is_listed, offered_outside}

same_list : (g : Shadow) (guards : blocks.Shadow) (b : ℕ)
    → ListStays g (record { guards = guards; items = g.items; member = g.member }) b
same_list g guards b = record { items = refl; members = λ x some. refl }

-- a block that the list has not
absent : (g : Shadow) (b x y : ℕ) (now : Member) → tally x (g.items b) ≡ 0 → 0 < tally y (g.items b)
    → put g.member x now y ≡ g.member y
absent g b x y now none some = put-other g.member x now y (λ q.
    let e : tally y (g.items b) ≡ 0 = ap (λ z. tally z (g.items b)) q ∙ none in omega arith)

pub others_leave_locked_lists : OthersLeaveLockedLists
others_leave_locked_lists k seat o b g m l h m' l' good lock ne (BinStep.guards guards' words' tasks step quiet same) =
    same_list g guards' b
others_leave_locked_lists k seat o b g m l h m' l' good lock ne (BinStep.wins c is won ready) = same_list g h.guards b
others_leave_locked_lists k seat o b g m l h m' l' good lock ne (BinStep.takes c some is) = same_list g g.guards b
others_leave_locked_lists k seat o b g m l h m' l' good lock ne (BinStep.leaves x n is) = same_list g g.guards b
others_leave_locked_lists k seat o b g m l h m' l' good lock ne (BinStep.frees c is) = same_list g g.guards b
others_leave_locked_lists k seat o b g m l h m' l' good lock ne (BinStep.comes x n is has) = record {
  items = refl;
  members = λ y some. absent g b x y (Member.Comes n o) (offered_outside k o g m l x n is has good b) some;
}
others_leave_locked_lists k seat o b g m l h m' l' good lock ne (BinStep.links x n at is) =
    by (insert_learn at (found m (insert_course (list_call bin_words (bin_of n) x) at)))
  where
    none : tally x (g.items b) ≡ 0
    none = good.once b x ∙ ap (in_bin b) (good.members.coming_is o x n (ap coming_of is))

    other_bin : b ≢ bin_of n
    other_bin q = ne (one_lock k m l.bins g.items b seat o good.lists lock
        (ap (λ z. lock_in (list_task z)) is ∙ ap Some (sym q)))

    by : (next : InsertNext) → ListStays g (record {
      guards = g.guards;
      items = put g.items (bin_of n)
          (items_inserted x (g.items (bin_of n)) next);
      member = member_linked x n next g.member;
    }) b
    by (InsertNext.Goes now) = record {
      items = put-other g.items (bin_of n) (g.items (bin_of n)) b other_bin;
      members = λ y some. refl;
    }
    by InsertNext.Inserted = record {
      items = put-other g.items (bin_of n) (items_inserted x (g.items (bin_of n)) InsertNext.Inserted) b other_bin;
      members = λ y some. absent g b x y (Member.In n) none some;
    }
others_leave_locked_lists k seat o b g m l h m' l' good lock ne (BinStep.unlinks x n at is) = record {
  items = put-other g.items (bin_of n) (items_removed x (g.items (bin_of n)) at) b other_bin;
  members = λ y some. by at is y some;
}
  where
    other_bin : b ≢ bin_of n
    other_bin q = ne (one_lock k m l.bins g.items b seat o good.lists lock
        (ap (λ z. lock_in (list_task z)) is ∙ ap Some (sym q)))

    by : (p : RemoveAt) → l.bins o ≡ Task.Unlinks x n p → (y : ℕ) → 0 < tally y (g.items b)
        → member_unlinked x p g.member y ≡ g.member y
    by RemoveAt.Forward is y some = refl
    by (RemoveAt.Backward forward) is y some = refl
    by (RemoveAt.Skip forward backward) is y some =
        let listed = is_listed k m l.bins g.items g.guards.place (λ j. won_of (l.bins j)) (λ j. cut_of (l.bins j))
        g.member o x n good.lists good.members (good.members.won_is o x n (ap won_of is)).1
        (ap (λ q. lock_in (list_task q)) is) (ap coming_of is) in
        absent g b x y Member.Out
        (good.once b x ∙ ap (in_bin b) listed ∙ put_else (λ _. 0) (bin_of n) b 1 (λ q. other_bin (sym q))) some
    by (RemoveAt.SkipBack behind backward) is y some = refl
