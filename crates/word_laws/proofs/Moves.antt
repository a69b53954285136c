-- An action on the row is the same action on the words by kind.
use Rattle.std.proofs.Common.{◌≡◌, ◌≢◌, ℕ, ◌+◌, ◌%◌, ◌^◌, ◌<◌, ◌≤◌, Bool, true, false, cond, eqb, List, length, refl, sym, ap, subst, ◌∙◌, ⊎_elim, arith}
use Rattle.std.specs.Prelude.{slice_index, slice_set}
use Rattle.std.proofs.lemmas.Bool.Decides.{eqb_tells, nat_tests}
use Rattle.std.proofs.lemmas.List.{get_or-set_same, get_or-set_other, get_or_past, set_past}
use Rattle.pool_words.specs.declared.words.Key.{Key}
use Rattle.pool_words.specs.declared.words.Word.{Word}
use Rattle.pool_words.specs.declared.actions.Action.TheVariants.{Load, Store, Swap, Exchange, Add, TakeOffice, GiveOffice, Nothing}
use Rattle.pool_words.specs.Words.{WordKind, number, kind_of_word, at_of, lengths, offset, length_of, base_of, words_of, index_of}
use Rattle.pool_words.specs.Actions.{value}
use Rattle.word_laws.specs.Memory.{Mem, Valid, put, write, memory, stored, word_at}
use Rattle.word_laws.specs.Laws.{ActionsActByKind}
use Rattle.word_laws.proofs.Rows.{less_or, equal_or, chosen, not_chosen, inside, apart, index-valid, index-void}

pub mem_found : (k : Key) (ws : List ℕ) (kind : WordKind) (i : ℕ) → i < length_of k kind
    → memory k ws kind i ≡ slice_index ws (base_of k kind + i)
mem_found k ws kind i h = chosen i (length_of k kind) (slice_index ws (base_of k kind + i)) 0 h

pub mem_past : (k : Key) (ws : List ℕ) (kind : WordKind) (i : ℕ) → length_of k kind ≤ i → memory k ws kind i ≡ 0
mem_past k ws kind i h = not_chosen i (length_of k kind) (slice_index ws (base_of k kind + i)) 0 h

pub write_here : (m : Mem) (c d : WordKind) (i v j : ℕ) → number c ≡ number d → i ≡ j → write m c i v d j ≡ v
write_here m c d i v j e f = grind (arith, nat_tests)

pub write_else : (m : Mem) (c d : WordKind) (i v j : ℕ) → (number c ≡ number d → i ≢ j)
    → write m c i v d j ≡ m d j
write_else m c d i v j n = ⊎_elim
    (λ (z : (eqb (number c) (number d) ≡ true) × (number c ≡ number d)).
    let no = n z.1 in let s = z.0 in grind (arith, nat_tests))
    (λ (z : (eqb (number c) (number d) ≡ false) × (number c ≢ number d)).
    ap (λ (b : Bool). cond b (put (m d) i v) (m d) j) z.0)
    (eqb_tells (number c) (number d))

-- a number set in the row, where a word lies, is that word written
mem_set : (k : Key) (ws : List ℕ) (c : WordKind) (i v : ℕ) → i < length_of k c → length ws ≡ words_of k
    → memory k (slice_set ws (base_of k c + i) v) ≡ write (memory k ws) c i v
mem_set k ws c i v h len = λ n d j. each d j n
  where
    new : List ℕ
    new = slice_set ws (base_of k c + i) v

    other : (d : WordKind) (j : ℕ) → j < length_of k d → (number c ≡ number d → i ≢ j)
        → memory k (slice_set ws (base_of k c + i) v) d j ≡ write (memory k ws) c i v d j
    other d j low differ = mem_found k (slice_set ws (base_of k c + i) v) d j low
        ∙ get_or-set_other ws (base_of k c + i) (base_of k d + j) v 0 (apart k c d i j h low differ)
        ∙ sym (mem_found k ws d j low)
        ∙ sym (write_else (memory k ws) c d i v j differ)

    low_here : (d : WordKind) (j : ℕ) → number c ≡ number d → i ≡ j → j < length_of k d
    low_here d j e f = subst (λ (x : ℕ). j < slice_index (lengths k) x) e (subst (λ (x : ℕ). x < length_of k c) f h)

    here : (d : WordKind) (j : ℕ) → number c ≡ number d → i ≡ j
        → memory k (slice_set ws (base_of k c + i) v) d j ≡ write (memory k ws) c i v d j
    here d j e f =
        let bases : base_of k c ≡ base_of k d = ap (offset (lengths k)) e in
        let at : base_of k d + j ≡ base_of k c + i = omega arith in
        let b = inside k c i h in
        mem_found k (slice_set ws (base_of k c + i) v) d j (low_here d j e f)
        ∙ ap (slice_index (slice_set ws (base_of k c + i) v)) at
        ∙ get_or-set_same ws (base_of k c + i) v 0 (omega arith)
        ∙ sym (write_here (memory k ws) c d i v j e f)

    void : (d : WordKind) (j : ℕ) → length_of k d ≤ j
        → memory k (slice_set ws (base_of k c + i) v) d j ≡ write (memory k ws) c i v d j
    void d j high = mem_past k (slice_set ws (base_of k c + i) v) d j high
        ∙ sym (mem_past k ws d j high)
        ∙ sym (write_else (memory k ws) c d i v j (λ e f. let low = low_here d j e f in omega arith))

    each : (d : WordKind) (j : ℕ)
        → memory k (slice_set ws (base_of k c + i) v) d j ≡ write (memory k ws) c i v d j
    each d j = less_or j (length_of k d)
        (λ low. equal_or (number c) (number d)
        (λ e. equal_or i j (λ f. here d j e f) (λ f. other d j low (λ _. f)))
        (λ e. other d j low (λ x. absurd (e x))))
        (void d j)

pub stored-valid : (k : Key) (m : Mem) (w : Word) (v : ℕ) → Valid k w
    → stored k m w v ≡ write m (kind_of_word w) (at_of w) v
unfolding stored
stored-valid k m w v valid =
    chosen (at_of w) (length_of k (kind_of_word w)) (write m (kind_of_word w) (at_of w) v) m valid

pub stored-void : (k : Key) (m : Mem) (w : Word) (v : ℕ) → length_of k (kind_of_word w) ≤ at_of w → stored k m w v ≡ m
unfolding stored
stored-void k m w v void =
    not_chosen (at_of w) (length_of k (kind_of_word w)) (write m (kind_of_word w) (at_of w) v) m void

set_word : (k : Key) (ws : List ℕ) (w : Word) (v : ℕ) → length ws ≡ words_of k
    → memory k (slice_set ws (index_of k w) v) ≡ stored k (memory k ws) w v
set_word k ws w v len = less_or (at_of w) (length_of k (kind_of_word w))
    (λ valid. ap (λ (i : ℕ). memory k (slice_set ws i v)) (index-valid k w valid)
    ∙ mem_set k ws (kind_of_word w) (at_of w) v valid len
    ∙ sym (stored-valid k (memory k ws) w v valid))
    (λ void. ap (memory k) (set_past ws (index_of k w) v (let e = index-void k w void in omega (arith, e, len)))
    ∙ sym (stored-void k (memory k ws) w v void))

found-is : (k : Key) (ws : List ℕ) (w : Word) → length ws ≡ words_of k → value k ws w ≡ word_at (memory k ws) w
found-is k ws w len = less_or (at_of w) (length_of k (kind_of_word w))
    (λ valid. ap (slice_index ws) (index-valid k w valid) ∙ sym (mem_found k ws (kind_of_word w) (at_of w) valid))
    (λ void. get_or_past ws (index_of k w) 0 (let e = index-void k w void in omega (arith, e, len))
    ∙ sym (mem_past k ws (kind_of_word w) (at_of w) void))

exchanged : (k : Key) (ws : List ℕ) (w : Word) (v : ℕ) (won : Bool) → length ws ≡ words_of k
    → memory k (cond won (slice_set ws (index_of k w) v) ws) ≡ cond won (stored k (memory k ws) w v) (memory k ws)
exchanged k ws w v true len = set_word k ws w v len
exchanged k ws w v false len = refl

pub actions_act_by_kind : ActionsActByKind
actions_act_by_kind k ws (Load w) len = record { leaves = refl; sees = found-is k ws w len }
actions_act_by_kind k ws (Store w x) len = record { leaves = set_word k ws w x len; sees = refl }
actions_act_by_kind k ws (Swap w x) len = record { leaves = set_word k ws w x len; sees = found-is k ws w len }
actions_act_by_kind k ws (Exchange w a b) len = record {
  leaves = rw (found-is k ws w len) (exchanged k ws w b (eqb (word_at (memory k ws) w) a) len);
  sees = found-is k ws w len;
}
actions_act_by_kind k ws (Add w x) len = record {
  leaves = rw (found-is k ws w len) (set_word k ws w ((word_at (memory k ws) w + x) % 2 ^ 64) len);
  sees = found-is k ws w len;
}
actions_act_by_kind k ws (TakeOffice job) len = record { leaves = refl; sees = refl }
actions_act_by_kind k ws GiveOffice len = record { leaves = refl; sees = refl }
actions_act_by_kind k ws Nothing len = record { leaves = refl; sees = refl }
