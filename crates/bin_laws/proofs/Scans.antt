-- What a scan knows of the bin whose lock it has.
use Rattle.std.proofs.Common.{◌≡◌, ◌≢◌, ◌⊎◌, inl, inr, ℕ, ◌+◌, ◌<◌, ◌≤◌, Bool, true, false, cond, ltb, Option, Some}
use Rattle.std.proofs.Common.{None}
use Rattle.std.proofs.Common.{List, [], ◌∷◌, ◌++◌, refl, sym, ap, subst, arith, ◌∙◌}
use Rattle.std.proofs.lemmas.Bool.Decides.{nat_tests}
use Rattle.pool_types.specs.Sums.{capped}
use Rattle.pool_words.specs.declared.words.Key.{Key}
use Rattle.pool_words.specs.declared.words.Word.{Word}
use Rattle.pool_words.specs.Words.{sizes, bin_heads, forwards}
use Rattle.word_codes.specs.declared.guards.Guard.{Guard}
use Rattle.word_codes.specs.Guards.{guard_of}
use Rattle.word_codes.specs.Links.{link_of}
use Rattle.guards.specs.declared.win.Side.{Side}
use Rattle.guards.specs.declared.win.Taking.{Taking}
use Rattle.guards.specs.declared.win.WinAt.{WinAt}
use Rattle.guards.specs.declared.win.WinNext.{WinNext}
use Rattle.backend_bins.specs.declared.blocks.Want.{Want}
use Rattle.backend_bins.specs.declared.scan.ScanAt.{ScanAt}
use Rattle.backend_bins.specs.declared.scan.ScanCall.{ScanCall}
use Rattle.backend_bins.specs.declared.scan.ScanStep.{ScanStep}
use Rattle.backend_bins.specs.Blocks.{block, bin_of, last_bin, fits}
use Rattle.backend_bins.specs.Scan.{goes, tries, see_block, visits, measure, step_course, step_learn}
use Rattle.word_laws.specs.Memory.{Mem, found}
use Rattle.chain_laws.specs.Chains.{Link, tally, IsChain}
use Rattle.chain_laws.proofs.CallerLemmas.{tally-here, tally-else, tally-append, leads-split}
use Rattle.word_laws.proofs.CallerLemmas.{less_or, equal_or, put-other, put_else}
use Rattle.locked_chain.specs.declared.insert.InsertAt.{InsertAt}
use Rattle.lock_laws.specs.Seats as seats
use Rattle.lock_laws.specs.Seats.{lock_in}
use Rattle.lock_laws.specs.Lists.{IsList}
use Rattle.lock_laws.specs.Lists.Change.{Still}
use Rattle.lock_laws.specs.Steps.{link_to, list_of}
use Rattle.guard_laws.specs.Blocks.{Use, Place, Piece, IsOffered, piece_of}
use Rattle.guard_laws.specs.Steps.{guard_in}
use Rattle.guard_laws.proofs.CallerLemmas.{free_guards_tell_blocks}
use Rattle.bin_laws.specs.Bins.{bin_words, Task, list_task, won_of, Member, IsMember, in_bin, Shadow, Locals, BinGood}
use Rattle.bin_laws.specs.Scans.{NoneFits, Meets, Passes, StepFits, AfterLook, IsLook}
use Rattle.bin_laws.specs.Steps.{task_won, BinStep}
use Rattle.bin_laws.specs.Laws.{ListStays, LooksKeepScans, LostWinsKeepScans, OthersKeepScans}
use Rattle.bin_laws.proofs.Stays.{others_leave_locked_lists}

-- a list's first item, by its head
pub heads_to : (links : ℕ → Link) (items : List ℕ) (first : ℕ) → IsChain links (Link.To first) items 0
    → (rest : List ℕ) × (items ≡ first ∷ rest)
heads_to links [] first chain = let q : Link.To first ≡ Link.Ends 0 = chain in absurd (cc)
heads_to links (x ∷ xs) first chain =
    let q : Link.To first ≡ Link.To x = chain.0 in let r : x ≡ first = cc in (xs, ap (λ y. y ∷ xs) r)

pub ends_at : (links : ℕ → Link) (items : List ℕ) → IsChain links (Link.Ends 0) items 0 → items ≡ []
ends_at links [] chain = refl
ends_at links (x ∷ xs) chain = let q : Link.Ends 0 ≡ Link.To x = chain.0 in absurd (cc)

in_last : (x y : ℕ) (front : List ℕ) → 0 < tally x (front ++ y ∷ []) → (0 < tally x front) ⊎ (x ≡ y)
in_last x y front some = less_or 0 (tally x front) (λ h. inl h)
    (λ none. equal_or x y (λ same. inr same)
    (λ ne. absurd (let a = tally-append x front (y ∷ []) in let b = tally-else x y [] ne in omega arith)))

-- one block more does not fit
none_more : (want : Want) (member : ℕ → Member) (front : List ℕ) (first : ℕ) → NoneFits want member front
    → ((n : ℕ) → member first ≡ Member.In n → fits want (block first n) ≡ false)
    → NoneFits want member (front ++ first ∷ [])
none_more want member front first none this x n some is = go (in_last x first front some)
  where
    go : (0 < tally x front) ⊎ (x ≡ first) → fits want (block x n) ≡ false
    go (inl h) = none x n h is
    go (inr same) = subst (λ y. fits want (block y n) ≡ false) (sym same)
        (this n (ap member (sym same) ∙ is))

pub snoc_append : (front rest : List ℕ) (x : ℕ) → front ++ (x ∷ rest) ≡ (front ++ x ∷ []) ++ rest
snoc_append [] rest x = refl
snoc_append (y ∷ ys) rest x = ap (λ zs. y ∷ zs) (snoc_append ys rest x)

-- a block that fits is won, and one that does not is passed
tries_keep : (g : Shadow) (task : Task) (c : ScanCall) (s : ScanAt) (first n : ℕ) → task ≡ Task.Has s.bin
    → Meets g c.want s.bin s.noted first → ((j : ℕ) → g.member first ≡ Member.In j → j ≡ n)
    → AfterLook g task c.want (tries c s (block first n))
tries_keep g task c s first n has meets long = by (fits c.want (block first n)) refl
  where
    by : (b : Bool) → fits c.want (block first n) ≡ b
        → AfterLook g task c.want
        (cond b (goes s (ScanStep.Win (block first n) WinAt.First))
        (goes s (ScanStep.Next first)))
    by true is = (has, meets)
    by false is = (
      has,
      record {
        front = meets.front;
        rest = meets.rest;
        items = meets.items;
        none = λ e. none_more c.want g.member meets.front first (meets.none e)
            (λ j in'. ap (λ z. fits c.want (block first z)) (long j in') ∙ is);
      },
    )

-- a member's block, and its bin
member_place : (k : Key) (g : Shadow) (m : Mem) (l : Locals) (x n : ℕ) → BinGood k g m l → g.member x ≡ Member.In n
    → (u : Use) × (g.guards.place x ≡ Place.Block x n u)
member_place k g m l x n good is = go (good.members.is_bin x n (subst (IsMember n) (sym is) refl))
  where
    go : (g.guards.place x ≡ Place.Block x n Use.Bin)
        ⊎ ((t : ℕ) × (j : Taking) × (g.guards.place x ≡ Place.Block x n (Use.Held t j))
        × (won_of (l.bins t) ≡ Piece.Got x n)) → (u : Use) × (g.guards.place x ≡ Place.Block x n u)
    go (inl f) = (Use.Bin, f)
    go (inr (t, j, f, w)) = (Use.Held t j, f)

pub met : (g : Shadow) (want : Want) (bin : ℕ) (noted : Option ℕ) (first : ℕ) → Meets g want bin noted first
    → 0 < tally first (g.items bin)
met g want bin noted first meets =
    let a = tally-append first meets.front (first ∷ meets.rest) in
    let b = tally-here first meets.rest in
    let c = ap (tally first) meets.items in omega arith

pub bin_tells : (n bin : ℕ) → 0 < n → bin_of n ≡ bin → bin < last_bin → n ≡ bin + 1
bin_tells n bin some is low = omega arith

pub below_last : (bin : ℕ) → ltb bin last_bin ≡ true → bin < last_bin
below_last bin is = grind (arith, nat_tests)

see_keep : (k : Key) (g : Shadow) (m : Mem) (l : Locals) (t : ℕ) (c : ScanCall) (s : ScanAt) (first : ℕ)
    → BinGood k g m l → l.bins t ≡ Task.Has s.bin → Meets g c.want s.bin s.noted first
    → AfterLook g (l.bins t) c.want (see_block c s first)
see_keep k g m l t c s first good has meets = by (ltb s.bin last_bin) refl
  where
    long : s.bin < last_bin → (j : ℕ) → g.member first ≡ Member.In j → j ≡ s.bin + 1
    long low j is =
        let at = member_place k g m l first j good is in
        let whole = (good.guards.parts.whole first first j at.0 at.1).below in
        bin_tells j s.bin (omega arith) (equal_or (bin_of j) s.bin (λ e. e)
        (λ ne. absurd (let some = met g c.want s.bin s.noted first meets in
        let none = good.once s.bin first ∙ ap (in_bin s.bin) is
        ∙ put_else (λ _. 0) (bin_of j) s.bin 1 ne in omega arith)))
        low

    by : (b : Bool) → ltb s.bin last_bin ≡ b
        → AfterLook g (l.bins t) c.want
        (cond b (tries c s (block first (s.bin + 1))) (goes s (ScanStep.Length first)))
    by true is = tries_keep g (l.bins t) c s first (s.bin + 1) has meets (long (below_last s.bin is))
    by false is = (has, meets)

-- the scan goes on to what is behind the blocks that it passed
visits_keep : (k : Key) (g : Shadow) (m : Mem) (l : Locals) (t : ℕ) (c : ScanCall) (s : ScanAt)
    (links : ℕ → Link) (front rest : List ℕ) (next : Option ℕ) → BinGood k g m l → l.bins t ≡ Task.Has s.bin
    → g.items s.bin ≡ front ++ rest → (s.noted ≡ None → NoneFits c.want g.member front)
    → IsChain links (link_to next) rest 0 → AfterLook g (l.bins t) c.want (visits c s next)
visits_keep k g m l t c s links front rest (Some y) good has items none chain =
    let at = heads_to links rest y chain in
    see_keep k g m l t c (record s { seen = capped (s.seen + 1) }) y good has (record {
      front = front;
      rest = at.0;
      items = items ∙ ap (λ zs. front ++ zs) at.1;
      none = none;
    })
visits_keep k g m l t c s links front rest None good has items none chain = (
  has,
  λ e x n some is. none e x n (let a = tally-append x front rest in
      let b = ap (tally x) (ends_at links rest chain) in let q = ap (tally x) items in omega arith) is,
)

-- a block that another is taking is noted, and passed
noted_keep : (g : Shadow) (task : Task) (want : Want) (bin : ℕ) {noted : Option ℕ} {note : ℕ} (first : ℕ)
    → task ≡ Task.Has bin → Meets g want bin noted first → (task ≡ Task.Has bin) × Passes g want bin (Some note) first
noted_keep g task want bin first has meets =
    (has, record { front = meets.front; rest = meets.rest; items = meets.items; none = λ e. absurd (cc) })

measure_keep : (k : Key) (g : Shadow) (m : Mem) (l : Locals) (t : ℕ) (c : ScanCall) (s : ScanAt) (first : ℕ)
    (guard : Guard) → BinGood k g m l → l.bins t ≡ Task.Has s.bin → Meets g c.want s.bin s.noted first
    → guard_in m Side.Begin first ≡ guard → AfterLook g (l.bins t) c.want (measure c s first guard)
measure_keep k g m l t c s first (Guard.Free n) good has meets is = tries_keep g (l.bins t) c s first n has meets long
  where
    tells : (x : ℕ) × (x ≡ first) × IsOffered g.guards.place (λ o. piece_of (l.guards o)) Side.Begin x n
        × (x + n ≤ k.span)
    tells = free_guards_tell_blocks k g.guards m l.guards Side.Begin first n good.guards is

    same : (x j : ℕ) (u : Use) → x ≡ first → IsOffered g.guards.place (λ o. piece_of (l.guards o)) Side.Begin x n
        → g.guards.place first ≡ Place.Block first j u → j ≡ n
    same x j u q (inl f) at =
        let r : Place.Block first j u ≡ Place.Block first n Use.Bin = sym at
        ∙ subst (λ b. g.guards.place b ≡ Place.Block b n Use.Bin) q f in cc
    same x j u q (inr (e, (o, i, f, p))) at =
        let r : Place.Block first j u ≡ Place.Block first n (Use.Held o i) = sym at
        ∙ subst (λ b. g.guards.place b ≡ Place.Block b n (Use.Held o i)) q f in cc

    long : (j : ℕ) → g.member first ≡ Member.In j → j ≡ n
    long j in' = let at = member_place k g m l first j good in' in same tells.0 j at.0 tells.1 tells.2 at.1
measure_keep k g m l t c s first Guard.Used good has meets is = noted_keep g (l.bins t) c.want s.bin first has meets
measure_keep k g m l t c s first Guard.Coalescing good has meets is =
    noted_keep g (l.bins t) c.want s.bin first has meets
measure_keep k g m l t c s first Guard.Wall good has meets is = noted_keep g (l.bins t) c.want s.bin first has meets

-- the list of the bin whose lock the seat has
pub locked_list : (k : Key) (g : Shadow) (m : Mem) (l : Locals) (t b : ℕ) → BinGood k g m l → l.bins t ≡ Task.Has b
    → IsList (list_of (Word.BinHead b) m) Still (g.items b)
locked_list k g m l t b good has =
    (subst (λ q. seats.TaskFits k bin_words m g.items q) (ap list_task has) (good.lists.fit t)).1

look_keeps : (k : Key) (g : Shadow) (m : Mem) (l : Locals) (t : ℕ) (c : ScanCall) (s : ScanAt) (step : ScanStep)
    → BinGood k g m l → IsLook step → StepFits g (l.bins t) c.want s.bin s.noted step
    → AfterLook g (l.bins t) c.want (step_learn c s step (found m (step_course c s step)))
look_keeps k g m l t c s ScanStep.Peek good look fits = absurd look
look_keeps k g m l t c s ScanStep.Lock good look fits = absurd look
look_keeps k g m l t c s ScanStep.Head good look fits = visits_keep k g m l t c s (list_of
    (Word.BinHead s.bin) m).next []
    (g.items s.bin) (link_of (m bin_heads s.bin)) good fits refl (λ e x n some is. absurd (omega arith))
    (locked_list k g m l t s.bin good fits).forward
look_keeps k g m l t c s (ScanStep.Length first) good look fits =
    measure_keep k g m l t c s first (guard_of (m sizes first)) good fits.0 fits.1 refl
look_keeps k g m l t c s (ScanStep.Win b at) good look fits = absurd look
look_keeps k g m l t c s (ScanStep.Next first) good look (has, passes) =
    visits_keep k g m l t c s links (passes.front ++ first ∷ []) passes.rest (link_of (m forwards first)) good has
    (passes.items ∙ snoc_append passes.front passes.rest first) passes.none
    (leads-split links (list_of (Word.BinHead s.bin) m).head passes.front first passes.rest (Link.Ends 0)
    (subst (λ xs. IsChain links (list_of (Word.BinHead s.bin) m).head xs 0) passes.items
    (locked_list k g m l t s.bin good has).forward)).1
  where
    links : ℕ → Link
    links = (list_of (Word.BinHead s.bin) m).next
look_keeps k g m l t c s (ScanStep.Out b at) good look fits = absurd look
look_keeps k g m l t c s (ScanStep.Unlock took) good look fits = absurd look

pub looks_keep_scans : LooksKeepScans
looks_keep_scans k g m l t c s good look fits = look_keeps k g m l t c s s.step good look fits

pub lost_wins_keep_scans : LostWinsKeepScans
lost_wins_keep_scans g task c s b (WinNext.Goes at) (has, meets) lost = (has, meets)
lost_wins_keep_scans g task c s b WinNext.Won (has, meets) lost = absurd (lost refl)
lost_wins_keep_scans g task c s b (WinNext.NotWon word) (has, meets) lost =
    noted_keep g task c.want s.bin b.first has meets
lost_wins_keep_scans g task c s b WinNext.GivenBack (has, meets) lost =
    noted_keep g task c.want s.bin b.first has meets

-- another seat's step leaves this one's task
other_bins : (k : Key) (t o : ℕ) (g : Shadow) (m : Mem) (l : Locals) (h : Shadow) (m' : Mem) (l' : Locals) → o ≢ t
    → BinStep k o g m l h m' l' → l'.bins t ≡ l.bins t
other_bins k t o g m l h m' l' ne (BinStep.guards guards' words' tasks step quiet same) = refl
other_bins k t o g m l h m' l' ne (BinStep.wins c is won ready) =
    put-other l.bins o (task_won c.begin c.granules (l.bins o)) t (λ q. ne (sym q))
other_bins k t o g m l h m' l' ne (BinStep.comes x n is has) =
    put-other l.bins o (Task.Links x n InsertAt.Head) t (λ q. ne (sym q))
other_bins k t o g m l h m' l' ne (BinStep.takes b some is) = put-other l.bins o _ t (λ q. ne (sym q))
other_bins k t o g m l h m' l' ne (BinStep.leaves x n is) = put-other l.bins o _ t (λ q. ne (sym q))
other_bins k t o g m l h m' l' ne (BinStep.frees b is) = put-other l.bins o Task.Away t (λ q. ne (sym q))
other_bins k t o g m l h m' l' ne (BinStep.links x n at is) = put-other l.bins o _ t (λ q. ne (sym q))
other_bins k t o g m l h m' l' ne (BinStep.unlinks x n at is) = put-other l.bins o _ t (λ q. ne (sym q))

none_stays : (g h : Shadow) (want : Want) (bin : ℕ) (xs : List ℕ) → ListStays g h bin
    → ((x : ℕ) → 0 < tally x xs → 0 < tally x (g.items bin)) → NoneFits want g.member xs → NoneFits want h.member xs
none_stays g h want bin xs stays among none x n some is =
    none x n some (sym (stays.members x (among x some)) ∙ is)

front_among : (items front rest : List ℕ) (first x : ℕ) → items ≡ front ++ (first ∷ rest) → 0 < tally x front
    → 0 < tally x items
front_among items front rest first x is some =
    let a = tally-append x front (first ∷ rest) in let b = ap (tally x) is in omega arith

passed_among : (items front rest : List ℕ) (first x : ℕ) → items ≡ front ++ (first ∷ rest)
    → 0 < tally x (front ++ first ∷ []) → 0 < tally x items
passed_among items front rest first x is some =
    let a = tally-append x (front ++ first ∷ []) rest in
    let b = ap (tally x) (is ∙ snoc_append front rest first) in omega arith

meets_stay : (g h : Shadow) (want : Want) (bin : ℕ) (noted : Option ℕ) (first : ℕ) → ListStays g h bin
    → Meets g want bin noted first → Meets h want bin noted first
meets_stay g h want bin noted first stays meets = record {
  front = meets.front;
  rest = meets.rest;
  items = stays.items ∙ meets.items;
  none = λ e. none_stays g h want bin meets.front stays
      (λ x some. front_among (g.items bin) meets.front meets.rest first x meets.items some) (meets.none e);
}

step_stays : (g h : Shadow) (task task' : Task) (want : Want) (bin : ℕ) (noted : Option ℕ) (step : ScanStep)
    → task' ≡ task → (task ≡ Task.Has bin → ListStays g h bin) → StepFits g task want bin noted step
    → StepFits h task' want bin noted step
step_stays g h task task' want bin noted ScanStep.Peek same stays fits = tt
step_stays g h task task' want bin noted ScanStep.Lock same stays fits = tt
step_stays g h task task' want bin noted ScanStep.Head same stays fits = same ∙ fits
step_stays g h task task' want bin noted (ScanStep.Length first) same stays (has, meets) =
    (same ∙ has, meets_stay g h want bin noted first (stays has) meets)
step_stays g h task task' want bin noted (ScanStep.Win b at) same stays (has, meets) =
    (same ∙ has, meets_stay g h want bin noted b.first (stays has) meets)
step_stays g h task task' want bin noted (ScanStep.Next first) same stays (has, passes) = (
  same ∙ has,
  record {
    front = passes.front;
    rest = passes.rest;
    items = (stays has).items ∙ passes.items;
    none = λ e. none_stays g h want bin (passes.front ++ first ∷ []) (stays has)
        (λ x some. passed_among (g.items bin) passes.front passes.rest first x passes.items some) (passes.none e);
  },
)
step_stays g h task task' want bin noted (ScanStep.Out b at) same stays fits = tt
step_stays g h task task' want bin noted (ScanStep.Unlock (Some b)) same stays fits = tt
step_stays g h task task' want bin noted (ScanStep.Unlock None) same stays (has, none) = (
  same ∙ has,
  λ e x n some is. none_stays g h want bin (g.items bin) (stays has) (λ _ q. q) (none e) x n
      (subst (λ xs. 0 < tally x xs) (stays has).items some) is,
)

pub others_keep_scans : OthersKeepScans
others_keep_scans k t o g m l h m' l' want s good ne step fits =
    step_stays g h (l.bins t) (l'.bins t) want s.bin s.noted s.step (other_bins k t o g m l h m' l' ne step)
    (λ has. others_leave_locked_lists k t o s.bin g m l h m' l' good (ap (λ q. lock_in (list_task q)) has) ne step) fits
