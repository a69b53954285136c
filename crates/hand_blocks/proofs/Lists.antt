-- Lists of hands: what is newest of a roll, changes in a row, and changes beside other blocks.
use Rattle.std.proofs.Common.{◌≡◌, ◌∙◌, ◌-◌, ℕ, zero, suc, List, [], ◌∷◌, ◌++◌}
use Rattle.std.proofs.Common.{length, take, refl, sym, ap, subst, arith}
use Rattle.std.specs.Prelude.{Some, None, slice_get}
use Rattle.std.proofs.lemmas.List.{append-nil, append_assoc}
use Rattle.std.proofs.lemmas.Option.{slice_get-get_or, slice_get_within}
use Rattle.backend_bins.specs.Blocks.{block}
use Rattle.hand_blocks.specs.Changes.{Alters, Change, HandsLead, come_all, gained, lost}
use Rattle.hand_blocks.specs.Hands.{AllHands, Hand, joining, released_hands}

newest_at : (g : ℕ) (xs : List ℕ) (i e : ℕ) → suc i ≡ length xs → slice_get xs i ≡ Some e
    → released_hands g xs ≡ released_hands g (take i xs) ++ joining (block e g) ∷ []
newest_at g [] i e len is = absurd (cc)
newest_at g (x ∷ []) zero e len is = let same : x ≡ e = cc in ap (λ y. joining (block y g) ∷ []) same
newest_at g (x ∷ (y ∷ ys)) zero e len is = absurd (omega arith)
newest_at g (x ∷ xs) (suc i) e len is =
    ap (λ rest. joining (block x g) ∷ rest) (newest_at g xs i e (omega arith) is)

-- the newest block of a roll is the last of those in hand
pub newest_hand : (g : ℕ) (xs : List ℕ) (e : ℕ) → slice_get xs (length xs - 1) ≡ Some e
    → released_hands g xs ≡ released_hands g (take (length xs - 1) xs) ++ joining (block e g) ∷ []
newest_hand g xs e is = newest_at g xs (length xs - 1) e
    (let low = slice_get_within xs (length xs - 1) e is in omega arith) is

none_newest : (xs : List ℕ) → slice_get xs (length xs - 1) ≡ None → xs ≡ []
none_newest [] is = refl
none_newest (x ∷ xs) is =
    let some = slice_get-get_or (x ∷ xs) (length (x ∷ xs) - 1) 0 (omega arith) in absurd (cc)

pub none_in_hand : (g : ℕ) (xs : List ℕ) → slice_get xs (length xs - 1) ≡ None → released_hands g xs ≡ []
none_in_hand g xs is = ap (released_hands g) (none_newest xs is)

-- a block comes behind all others
comes_last : (one : Hand) (pre rest : List Hand) → Alters (Change.Comes one) pre (pre ++ one ∷ [])
comes_last one pre rest = record {
  above = pre;
  below = [];
  was = sym (append-nil pre);
  now = refl;
  fair = tt;
}

-- blocks come one after another, behind those that are in hand
pub all_come : (pre hands : List Hand) → HandsLead (come_all hands) pre (pre ++ hands)
all_come pre [] = append-nil pre
all_come pre (one ∷ rest) = (
  pre ++ one ∷ [],
  comes_last one pre rest,
  subst (λ hands. HandsLead (come_all rest) (pre ++ one ∷ []) hands) (append_assoc pre (one ∷ []) rest)
      (all_come (pre ++ one ∷ []) rest),
)

-- a change leaves what is before
alters_behind : (pre : List Hand) (change : Change) (before after : List Hand) → Alters change before after
    → Alters change (pre ++ before) (pre ++ after)
alters_behind pre change before after is = record {
  above = pre ++ is.above;
  below = is.below;
  was = ap (λ hands. pre ++ hands) is.was ∙ sym (append_assoc pre is.above (lost change ++ is.below));
  now = ap (λ hands. pre ++ hands) is.now ∙ sym (append_assoc pre is.above (gained change ++ is.below));
  fair = is.fair;
}

pub leads_behind : (pre : List Hand) (changes : List Change) (before after : List Hand)
    → HandsLead changes before after
    → HandsLead changes (pre ++ before) (pre ++ after)
leads_behind pre [] before after is = ap (λ hands. pre ++ hands) is
leads_behind pre (change ∷ rest) before after is =
    (pre ++ is.0, alters_behind pre change before is.0 is.1, leads_behind pre rest is.0 after is.2)

-- the rest of the changes follows
pub leads_then : (changes more : List Change) (before between after : List Hand) → HandsLead changes before between
    → HandsLead more between after → HandsLead (changes ++ more) before after
leads_then [] more before between after is next = subst (λ hands. HandsLead more hands after) is next
leads_then (change ∷ rest) more before between after is next =
    (is.0, is.1, leads_then rest more is.0 between after is.2 next)

pub leads_to : (changes : List Change) (before after hands : List Hand) → HandsLead changes before after
    → hands ≡ after
    → HandsLead changes before hands
leads_to changes before after hands is same = subst (λ hands. HandsLead changes before hands) (sym same) is

pub leads_from : (changes : List Change) (before hands after : List Hand) → HandsLead changes hands after
    → before ≡ hands
    → HandsLead changes before after
leads_from changes before hands after is same = subst (λ hands. HandsLead changes hands after) (sym same) is

-- a block comes, or leaves, alone
pub comes : (one : Hand) → HandsLead (Change.Comes one ∷ []) [] (one ∷ [])
comes one = (one ∷ [], record { above = []; below = []; was = refl; now = refl; fair = tt }, refl)

pub leaves : (one : Hand) → HandsLead (Change.Leaves one ∷ []) (one ∷ []) []
leaves one = ([], record { above = []; below = []; was = refl; now = refl; fair = tt }, refl)

-- and what is behind
alters_before : (post : List Hand) (change : Change) (before after : List Hand) → Alters change before after
    → Alters change (before ++ post) (after ++ post)
alters_before post change before after is = record {
  above = is.above;
  below = is.below ++ post;
  was = ap (λ hands. hands ++ post) is.was ∙ append_assoc is.above (lost change ++ is.below) post
      ∙ ap (λ hands. is.above ++ hands) (append_assoc (lost change) is.below post);
  now = ap (λ hands. hands ++ post) is.now ∙ append_assoc is.above (gained change ++ is.below) post
      ∙ ap (λ hands. is.above ++ hands) (append_assoc (gained change) is.below post);
  fair = is.fair;
}

pub leads_before : (post : List Hand) (changes : List Change) (before after : List Hand)
    → HandsLead changes before after
    → HandsLead changes (before ++ post) (after ++ post)
leads_before post [] before after is = ap (λ hands. hands ++ post) is
leads_before post (change ∷ rest) before after is =
    (is.0 ++ post, alters_before post change before is.0 is.1, leads_before post rest is.0 after is.2)

-- a fact of all blocks is one of those before and of those behind, and the other way round
pub all_of : (IsSuch : Hand → Type 0) (one other : List Hand) → AllHands IsSuch one → AllHands IsSuch other
    → AllHands IsSuch (one ++ other)
all_of IsSuch [] other is more = more
all_of IsSuch (x ∷ xs) other is more = (is.0, all_of IsSuch xs other is.1 more)

pub first_of_all : (IsSuch : Hand → Type 0) (one other : List Hand) → AllHands IsSuch (one ++ other)
    → AllHands IsSuch one
first_of_all IsSuch [] other is = tt
first_of_all IsSuch (x ∷ xs) other is = (is.0, first_of_all IsSuch xs other is.1)

pub rest_of_all : (IsSuch : Hand → Type 0) (one other : List Hand) → AllHands IsSuch (one ++ other)
    → AllHands IsSuch other
rest_of_all IsSuch [] other is = is
rest_of_all IsSuch (x ∷ xs) other is = rest_of_all IsSuch xs other is.1

-- of a change: a fact of all blocks before it is one of those that it loses and of those that it leaves; and a fact of
-- those that it leaves and gains is one of all blocks after it
pub record Apart (IsSuch : Hand → Type 0) (above middle below : List Hand) : Type 0 where
  pub above' : AllHands IsSuch above
  pub middle' : AllHands IsSuch middle
  pub below' : AllHands IsSuch below

pub alters_apart : (IsSuch : Hand → Type 0) (change : Change) (before after : List Hand)
    → (is : Alters change before after) → AllHands IsSuch before → Apart IsSuch is.above (lost change) is.below
alters_apart IsSuch change before after is all =
    let parts : AllHands IsSuch (is.above ++ (lost change ++ is.below)) = subst (AllHands IsSuch) is.was all in
    let behind = rest_of_all IsSuch is.above (lost change ++ is.below) parts in
    record {
      above' = first_of_all IsSuch is.above (lost change ++ is.below) parts;
      middle' = first_of_all IsSuch (lost change) is.below behind;
      below' = rest_of_all IsSuch (lost change) is.below behind;
    }

pub alters_all : (IsSuch : Hand → Type 0) (change : Change) (before after : List Hand)
    → (is : Alters change before after) → Apart IsSuch is.above (gained change) is.below → AllHands IsSuch after
alters_all IsSuch change before after is parts = subst (AllHands IsSuch) (sym is.now)
    (all_of IsSuch is.above (gained change ++ is.below) parts.above'
    (all_of IsSuch (gained change) is.below parts.middle' parts.below'))
