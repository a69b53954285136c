-- What a change makes of the blocks that lists have.
use Rattle.std.proofs.Common.{◌≡◌, ◌≢◌, ◌⊎◌, inl, inr, ℕ, refl, sym, ap, subst, ◌∙◌}
use Rattle.guards.specs.declared.win.Taking.{Taking}
use Rattle.word_laws.specs.Memory.{put}
use Rattle.word_laws.proofs.CallerLemmas.{equal_or, put-same, put-other, each}
use Rattle.guard_laws.specs.Blocks.{Use, Place, Piece}
use Rattle.guard_laws.proofs.CallerLemmas.{Moved, same_block}
use Rattle.bin_laws.specs.Bins.{Member, IsMember, MembersFit}

held_not_bin : (place : ℕ → Place) (x n m t : ℕ) (j : Taking) → place x ≡ Place.Block x n Use.Bin
    → place x ≡ Place.Block x m (Use.Held t j) → ⊥
held_not_bin place x n m t j a b = let q : Place.Block x n Use.Bin ≡ Place.Block x m (Use.Held t j) = sym a ∙ b in cc

one_hand : (place : ℕ → Place) (x n m t o : ℕ) (j i : Taking) → place x ≡ Place.Block x n (Use.Held t j)
    → place x ≡ Place.Block x m (Use.Held o i) → o ≡ t
one_hand place x n m t o j i a b =
    let q : Place.Block x n (Use.Held t j) ≡ Place.Block x m (Use.Held o i) = sym a ∙ b in cc

none_got : {x n : ℕ} → Piece.NoPiece ≡ Piece.Got x n → ⊥
none_got q = cc

at_place : (place : ℕ → Place) (y x m : ℕ) (u : Use) → y ≡ x → place y ≡ Place.Block y m u
    → place x ≡ Place.Block x m u
at_place place y x m u same f = subst (λ b. place b ≡ Place.Block b m u) same f

-- blocks in bins stay there, no other comes, and what seats have won or taken out stays in their hands
pub members_stay : (place place' : ℕ → Place) (wons comings cuts : ℕ → Piece) (member : ℕ → Member)
    → ((x n : ℕ) → place x ≡ Place.Block x n Use.Bin → place' x ≡ Place.Block x n Use.Bin)
    → ((x n : ℕ) → place' x ≡ Place.Block x n Use.Bin → place x ≡ Place.Block x n Use.Bin)
    → ((t x n : ℕ) (j : Taking) → (wons t ≡ Piece.Got x n) ⊎ (cuts t ≡ Piece.Got x n)
    → place x ≡ Place.Block x n (Use.Held t j) → place' x ≡ Place.Block x n (Use.Held t j))
    → MembersFit place wons comings cuts member → MembersFit place' wons comings cuts member
members_stay place place' wons comings cuts member to from hands fits = record {
  bin_is = λ x n f. fits.bin_is x n (from x n f);
  is_bin = λ x n h. stays x n (fits.is_bin x n h);
  won_is = λ t x n w. let old = fits.won_is t x n w in ((old.0.0, hands t x n old.0.0 (inl w) old.0.1), old.1);
  coming_is = fits.coming_is;
  is_coming = fits.is_coming;
  cut_is = λ t x n w. let old = fits.cut_is t x n w in ((old.0.0, hands t x n old.0.0 (inr w) old.0.1), old.1);
}
  where
    stays : (x n : ℕ) → (place x ≡ Place.Block x n Use.Bin)
        ⊎ ((t : ℕ) × (j : Taking) × (place x ≡ Place.Block x n (Use.Held t j)) × (wons t ≡ Piece.Got x n))
        → (place' x ≡ Place.Block x n Use.Bin)
        ⊎ ((t : ℕ) × (j : Taking) × (place' x ≡ Place.Block x n (Use.Held t j)) × (wons t ≡ Piece.Got x n))
    stays x n (inl f) = inl (to x n f)
    stays x n (inr (t, j, f, w)) = inr (t, j, hands t x n j (inl w) f, w)

-- a block in a bin is won
pub member_won : (place place' : ℕ → Place) (wons comings cuts : ℕ → Piece) (member : ℕ → Member) (t x n : ℕ)
    (j : Taking) → place x ≡ Place.Block x n Use.Bin → Moved place place' x n (Use.Held t j) → wons t ≡ Piece.NoPiece
    → MembersFit place wons comings cuts member
    → MembersFit place' (put wons t (Piece.Got x n)) comings cuts member
member_won place place' wons comings cuts member t x n j at moved none fits = record {
  bin_is = λ y m f. equal_or y x
      (λ same. absurd (held_not_bin place' x m n t j (at_place place' y x m Use.Bin same f) moved.here))
      (λ ne. fits.bin_is y m (moved.from y m Use.Bin ne f));
  is_bin = λ y m h. equal_or y x (λ same. mine y m same h) (λ ne. other y m ne (fits.is_bin y m h));
  won_is = each (λ o p. (y m : ℕ) → p ≡ Piece.Got y m
      → ((i : Taking) × (place' y ≡ Place.Block y m (Use.Held o i))) × IsMember m (member y)) wons t (Piece.Got x n)
      (λ o _ y m w. let old = fits.won_is o y m w in
      ((old.0.0, moved.to y m (Use.Held o old.0.0) (in_hand o y m old.0.0 old.0.1) old.0.1), old.1))
      got;
  coming_is = fits.coming_is;
  is_coming = fits.is_coming;
  cut_is = λ o y m w. let old = fits.cut_is o y m w in
      ((old.0.0, moved.to y m (Use.Held o old.0.0) (in_hand o y m old.0.0 old.0.1) old.0.1), old.1);
}
  where
    in_hand : (o y m : ℕ) (i : Taking) → place y ≡ Place.Block y m (Use.Held o i) → y ≢ x
    in_hand o y m i f same = held_not_bin place x n m o i at (at_place place y x m (Use.Held o i) same f)

    got : (y m : ℕ) → Piece.Got x n ≡ Piece.Got y m
        → ((i : Taking) × (place' y ≡ Place.Block y m (Use.Held t i))) × IsMember m (member y)
    got y m q =
        let q0 : x ≡ y = cc in let q1 : n ≡ m = cc in
        subst (λ b. ((i : Taking) × (place' b ≡ Place.Block b m (Use.Held t i))) × IsMember m (member b)) q0
        (subst (λ b. ((i : Taking) × (place' x ≡ Place.Block x b (Use.Held t i))) × IsMember b (member x)) q1
        ((j, moved.here), fits.bin_is x n at))

    mine : (y m : ℕ) → y ≡ x → IsMember m (member y) → (place' y ≡ Place.Block y m Use.Bin)
        ⊎ ((o : ℕ) × (i : Taking) × (place' y ≡ Place.Block y m (Use.Held o i))
        × (put wons t (Piece.Got x n) o ≡ Piece.Got y m))
    mine y m same h = inr (
      t,
      j,
      subst (λ b. place' b ≡ Place.Block b m (Use.Held t j)) (sym same)
          (subst (λ b. place' x ≡ Place.Block x b (Use.Held t j)) (long (fits.is_bin y m h)) moved.here),
      put-same wons t (Piece.Got x n) ∙ ap (λ b. Piece.Got b n) (sym same)
          ∙ ap (Piece.Got y) (long (fits.is_bin y m h)),
    )
      where
        long : (place y ≡ Place.Block y m Use.Bin)
            ⊎ ((o : ℕ) × (i : Taking) × (place y ≡ Place.Block y m (Use.Held o i)) × (wons o ≡ Piece.Got y m)) → n ≡ m
        long (inl f) = (same_block place x x n x m Use.Bin Use.Bin at (at_place place y x m Use.Bin same f)).1
        long (inr (o, i, f, w)) = absurd (in_hand o y m i f same)

    other : (y m : ℕ) → y ≢ x → (place y ≡ Place.Block y m Use.Bin)
        ⊎ ((o : ℕ) × (i : Taking) × (place y ≡ Place.Block y m (Use.Held o i)) × (wons o ≡ Piece.Got y m))
        → (place' y ≡ Place.Block y m Use.Bin)
        ⊎ ((o : ℕ) × (i : Taking) × (place' y ≡ Place.Block y m (Use.Held o i))
        × (put wons t (Piece.Got x n) o ≡ Piece.Got y m))
    other y m ne (inl f) = inl (moved.to y m Use.Bin ne f)
    other y m ne (inr (o, i, f, w)) = inr (
      o,
      i,
      moved.to y m (Use.Held o i) ne f,
      put-other wons t (Piece.Got x n) o (λ q. none_got (sym none ∙ ap wons (sym q) ∙ w)) ∙ w,
    )

-- a block comes into a bin, and its putter is about to link it
pub member_comes : (place place' : ℕ → Place) (wons comings cuts : ℕ → Piece) (member : ℕ → Member) (t x n : ℕ)
    (j : Taking) → place x ≡ Place.Block x n (Use.Held t j) → Moved place place' x n Use.Bin
    → comings t ≡ Piece.NoPiece → cuts t ≡ Piece.NoPiece → member x ≡ Member.Out
    → MembersFit place wons comings cuts member
    → MembersFit place' wons (put comings t (Piece.Got x n)) cuts (put member x (Member.Comes n t))
member_comes place place' wons comings cuts member t x n j at moved none uncut out fits = record {
  bin_is = each (λ y b. (m : ℕ) → place' y ≡ Place.Block y m Use.Bin → IsMember m b) member x now
      (λ y ne m f. fits.bin_is y m (moved.from y m Use.Bin ne f))
      (λ m f. (same_block place' x x n x m Use.Bin Use.Bin moved.here f).1);
  is_bin = each (λ y b. (m : ℕ) → IsMember m b → (place' y ≡ Place.Block y m Use.Bin)
      ⊎ ((o : ℕ) × (i : Taking) × (place' y ≡ Place.Block y m (Use.Held o i)) × (wons o ≡ Piece.Got y m))) member x now
      (λ y ne m h. other y m ne (fits.is_bin y m h))
      (λ m h. inl (subst (λ b. place' x ≡ Place.Block x b Use.Bin) h moved.here));
  won_is = λ o y m w. let old = fits.won_is o y m w in
      let ne : y ≢ x = λ q. subst (IsMember m) (ap member q ∙ out) old.1 in (
        (old.0.0, moved.to y m (Use.Held o old.0.0) ne old.0.1),
        subst (IsMember m) (sym
            (put-other member x now y ne)) old.1,
      );
  coming_is = each (λ o p. (y m : ℕ) → p ≡ Piece.Got y m → put member x now y ≡ Member.Comes m o) comings t mine
      (λ o _ y m c. let old = fits.coming_is o y m c in put-other member x now y
      (λ q. out_comes m o (sym out ∙ ap member (sym q) ∙ old)) ∙ old)
      got;
  is_coming = λ o y m. each (λ y b. b ≡ Member.Comes m o → put comings t mine o ≡ Piece.Got y m) member x now
      (λ y _ c. let old = fits.is_coming o y m c in
      put-other comings t mine o (λ q. none_got (sym none ∙ ap comings (sym q) ∙ old)) ∙ old)
      (λ c. let q0 : n ≡ m = cc in let q1 : t ≡ o = cc in
      ap (put comings t mine) (sym q1) ∙ put-same comings t mine ∙ ap (Piece.Got x) q0) y;
  cut_is = λ o y m c. let old = fits.cut_is o y m c in
      let ne : y ≢ x = λ q. none_got (sym uncut ∙ ap cuts (sym (one_hand place x n m t o j old.0.0 at
      (at_place place y x m (Use.Held o old.0.0) q old.0.1))) ∙ c) in
      ((old.0.0, moved.to y m (Use.Held o old.0.0) ne old.0.1), put-other member x now y ne ∙ old.1);
}
  where
    now : Member
    now = Member.Comes n t

    mine : Piece
    mine = Piece.Got x n

    out_comes : (m o : ℕ) → Member.Out ≡ Member.Comes m o → ⊥
    out_comes m o q = cc

    got : (y m : ℕ) → mine ≡ Piece.Got y m → put member x now y ≡ Member.Comes m t
    got y m q = let q0 : x ≡ y = cc in let q1 : n ≡ m = cc in
        ap (put member x now) (sym q0) ∙ put-same member x now ∙ ap (λ b. Member.Comes b t) q1

    other : (y m : ℕ) → y ≢ x → (place y ≡ Place.Block y m Use.Bin)
        ⊎ ((o : ℕ) × (i : Taking) × (place y ≡ Place.Block y m (Use.Held o i)) × (wons o ≡ Piece.Got y m))
        → (place' y ≡ Place.Block y m Use.Bin)
        ⊎ ((o : ℕ) × (i : Taking) × (place' y ≡ Place.Block y m (Use.Held o i)) × (wons o ≡ Piece.Got y m))
    other y m ne (inl f) = inl (moved.to y m Use.Bin ne f)
    other y m ne (inr (o, i, f, w)) = inr (o, i, moved.to y m (Use.Held o i) ne f, w)

-- the block is in the list
pub member_linked : (place : ℕ → Place) (wons comings cuts : ℕ → Piece) (member : ℕ → Member) (t x n : ℕ)
    → comings t ≡ Piece.Got x n → MembersFit place wons comings cuts member
    → MembersFit place wons (put comings t Piece.NoPiece) cuts (put member x (Member.In n))
member_linked place wons comings cuts member t x n is fits = record {
  bin_is = each (λ y b. (m : ℕ) → place y ≡ Place.Block y m Use.Bin → IsMember m b) member x now
      (λ y _ m. fits.bin_is y m) (λ m f. subst (IsMember m) comes (fits.bin_is x m f));
  is_bin = each (λ y b. (m : ℕ) → IsMember m b → (place y ≡ Place.Block y m Use.Bin)
      ⊎ ((o : ℕ) × (i : Taking) × (place y ≡ Place.Block y m (Use.Held o i)) × (wons o ≡ Piece.Got y m))) member x now
      (λ y _ m. fits.is_bin y m) (λ m h. fits.is_bin x m (subst (IsMember m) (sym comes) h));
  won_is = λ o y m w. let old = fits.won_is o y m w in (
    old.0,
    each (λ y b. IsMember m (member y) → IsMember m b) member x now (λ _ _ h. h)
        (λ h. subst (IsMember m) comes h) y old.1,
  );
  coming_is = each (λ o p. (y m : ℕ) → p ≡ Piece.Got y m → put member x now y ≡ Member.Comes m o) comings t
      Piece.NoPiece
      (λ o ne y m c. let old = fits.coming_is o y m c in put-other member x now y
      (λ q. ne (one_comer m o (sym comes ∙ ap member (sym q) ∙ old))) ∙ old)
      (λ y m c. absurd (none_got c));
  is_coming = λ o y m. each (λ y b. b ≡ Member.Comes m o → put comings t Piece.NoPiece o ≡ Piece.Got y m) member x now
      (λ y ne c. let old = fits.is_coming o y m c in
      put-other comings t Piece.NoPiece o (λ q. ne (one_block y m (sym is ∙ ap comings (sym q) ∙ old))) ∙ old)
      (λ c. absurd (cc)) y;
  cut_is = λ o y m c. let old = fits.cut_is o y m c in
      (old.0, put-other member x now y (λ q. out_comes (sym old.1 ∙ ap member q ∙ comes)) ∙ old.1);
}
  where
    now : Member
    now = Member.In n

    comes : member x ≡ Member.Comes n t
    comes = fits.coming_is t x n is

    one_comer : (m o : ℕ) → Member.Comes n t ≡ Member.Comes m o → o ≡ t
    one_comer m o q = cc

    one_block : (y m : ℕ) → Piece.Got x n ≡ Piece.Got y m → y ≡ x
    one_block y m q = cc

    out_comes : Member.Out ≡ Member.Comes n t → ⊥
    out_comes q = cc

-- a block that was won is out of the list
pub member_cut : (place : ℕ → Place) (wons comings cuts : ℕ → Piece) (member : ℕ → Member) (t x n : ℕ) (cut : Piece)
    → wons t ≡ Piece.Got x n → member x ≡ Member.In n
    → ((y m : ℕ) → cut ≡ Piece.Got y m → Piece.Got x n ≡ Piece.Got y m) → MembersFit place wons comings cuts member
    → MembersFit place (put wons t Piece.NoPiece) comings (put cuts t cut) (put member x Member.Out)
member_cut place wons comings cuts member t x n cut is listed same_cut fits = record {
  bin_is = each (λ y b. (m : ℕ) → place y ≡ Place.Block y m Use.Bin → IsMember m b) member x now
      (λ y _ m. fits.bin_is y m) (λ m f. held_not_bin place x m n t mine.0.0 f mine.0.1);
  is_bin = each (λ y b. (m : ℕ) → IsMember m b → (place y ≡ Place.Block y m Use.Bin)
      ⊎ ((o : ℕ) × (i : Taking) × (place y ≡ Place.Block y m (Use.Held o i))
      × (put wons t Piece.NoPiece o ≡ Piece.Got y m))) member x now
      (λ y ne m h. other y m ne (fits.is_bin y m h)) (λ m h. absurd h);
  won_is = each (λ o p. (y m : ℕ) → p ≡ Piece.Got y m
      → ((i : Taking) × (place y ≡ Place.Block y m (Use.Held o i))) × IsMember m (put member x now y)) wons t
      Piece.NoPiece
      (λ o ne y m w. let old = fits.won_is o y m w in (
        old.0,
        subst (IsMember m) (sym (put-other member x now y
            (λ q. ne (one_hand place x n m t o mine.0.0 old.0.0 mine.0.1
            (at_place place y x m (Use.Held o old.0.0) q old.0.1))))) old.1,
      ))
      (λ y m w. absurd (none_got w));
  coming_is = λ o y m c. let old = fits.coming_is o y m c in
      put-other member x now y (λ q. in_comes m o (sym listed ∙ ap member (sym q) ∙ old)) ∙ old;
  is_coming = λ o y m. each (λ y b. b ≡ Member.Comes m o → comings o ≡ Piece.Got y m) member x now
      (λ y _ c. fits.is_coming o y m c) (λ c. absurd (cc)) y;
  cut_is = each (λ o p. (y m : ℕ) → p ≡ Piece.Got y m
      → ((i : Taking) × (place y ≡ Place.Block y m (Use.Held o i))) × (put member x now y ≡ Member.Out)) cuts t cut
      (λ o _ y m c. let old = fits.cut_is o y m c in
      (old.0, each (λ y b. member y ≡ Member.Out → b ≡ Member.Out) member x now (λ _ _ h. h) (λ _. refl) y old.1))
      (λ y m c. got y m (same_cut y m c));
}
  where
    now : Member
    now = Member.Out

    mine : ((i : Taking) × (place x ≡ Place.Block x n (Use.Held t i))) × IsMember n (member x)
    mine = fits.won_is t x n is

    in_comes : (m o : ℕ) → Member.In n ≡ Member.Comes m o → ⊥
    in_comes m o q = cc

    got : (y m : ℕ) → Piece.Got x n ≡ Piece.Got y m
        → ((i : Taking) × (place y ≡ Place.Block y m (Use.Held t i))) × (put member x now y ≡ Member.Out)
    got y m q =
        let q0 : x ≡ y = cc in let q1 : n ≡ m = cc in
        subst (λ b. ((i : Taking) × (place b ≡ Place.Block b m (Use.Held t i))) × (put member x now b ≡ Member.Out)) q0
        (subst (λ b. ((i : Taking) × (place x ≡ Place.Block x b (Use.Held t i))) × (put member x now x ≡ Member.Out)) q1
        (mine.0, put-same member x now))

    one_block : (y m : ℕ) → Piece.Got x n ≡ Piece.Got y m → y ≡ x
    one_block y m q = cc

    other : (y m : ℕ) → y ≢ x → (place y ≡ Place.Block y m Use.Bin)
        ⊎ ((o : ℕ) × (i : Taking) × (place y ≡ Place.Block y m (Use.Held o i)) × (wons o ≡ Piece.Got y m))
        → (place y ≡ Place.Block y m Use.Bin)
        ⊎ ((o : ℕ) × (i : Taking) × (place y ≡ Place.Block y m (Use.Held o i))
        × (put wons t Piece.NoPiece o ≡ Piece.Got y m))
    other y m ne (inl f) = inl f
    other y m ne (inr (o, i, f, w)) = inr (
      o,
      i,
      f,
      put-other wons t Piece.NoPiece o (λ q. ne (one_block y m (sym is ∙ ap wons (sym q) ∙ w))) ∙ w,
    )

-- and out of the links back too
pub member_uncut : (place : ℕ → Place) (wons comings cuts : ℕ → Piece) (member : ℕ → Member) (t : ℕ)
    → MembersFit place wons comings cuts member → MembersFit place wons comings (put cuts t Piece.NoPiece) member
member_uncut place wons comings cuts member t fits = record {
  bin_is = fits.bin_is;
  is_bin = fits.is_bin;
  won_is = fits.won_is;
  coming_is = fits.coming_is;
  is_coming = fits.is_coming;
  cut_is = each (λ o p. (y m : ℕ) → p ≡ Piece.Got y m
      → ((i : Taking) × (place y ≡ Place.Block y m (Use.Held o i))) × (member y ≡ Member.Out)) cuts t Piece.NoPiece
      (λ o _. fits.cut_is o) (λ y m c. absurd (none_got c));
}
