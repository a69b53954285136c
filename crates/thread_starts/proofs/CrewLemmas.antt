-- Lists of workers: one more, one fewer, one changed.
use Rattle.std.proofs.Common.{◌≡◌, ℕ, zero, suc, ◌<◌, List, [], ◌∷◌, ◌++◌, length, map, get_or, refl, sym, ap, ◌∙◌, subst, arith, append_assoc}
use Rattle.std.specs.Prelude.{slice_set, Result, Ok, Err, IfOk, Bool, Option}
use Rattle.atomic_table.specs.Seated.{TableId}
use Rattle.pool_types.specs.declared.raw.Raw.{Ghosts}
use Rattle.pool_types.specs.declared.values.Region.{Region}
use Rattle.pool_api.specs.Tables.{Stand}
use Rattle.trace_reader.specs.declared.acts.TraceLine.{TraceLine}
use Rattle.thread_lines.specs.declared.worker.Worker.{Worker}
use Rattle.thread_lines.specs.Working.{Works}
use Rattle.thread_starts.specs.declared.starting.Crew.{Crew}
use Rattle.thread_starts.specs.declared.starting.Next.{Next}
use Rattle.thread_starts.specs.Crews.{Each, IsDone, IsCrew, IsNext, Joins, JoinsLast, threads_of}

module _ {A : Type 0} (P : A → Type 0) where
  pub each_more : (xs : List A) (x : A) → Each P xs → P x → Each P (xs ++ x ∷ [])
  each_more [] x all one = (one, tt)
  each_more (y ∷ ys) x all one = (all.0, each_more ys x all.1 one)

  pub each_front : (xs : List A) (x : A) → Each P (xs ++ x ∷ []) → Each P xs × P x
  each_front [] x all = (tt, all.0)
  each_front (y ∷ ys) x all = let q = each_front ys x all.1 in ((all.0, q.0), q.1)

  pub each_at : (xs : List A) (i : ℕ) (d : A) → i < length xs → Each P xs → P (get_or xs i d)
  each_at [] i d low all = absurd (omega arith)
  each_at (x ∷ xs) zero d low all = all.0
  each_at (x ∷ xs) (suc i) d low all = each_at xs i d (omega arith) all.1

  pub each_set : (xs : List A) (i : ℕ) (y : A) → Each P xs → P y → Each P (slice_set xs i y)
  each_set [] i y all one = all
  each_set (x ∷ xs) zero y all one = (one, all.1)
  each_set (x ∷ xs) (suc i) y all one = (all.0, each_set xs i y all.1 one)

module _ {A B : Type 0} (f : A → B) where
  pub map_more : (xs : List A) (x : A) → map f (xs ++ x ∷ []) ≡ map f xs ++ f x ∷ []
  map_more [] x = refl
  map_more (y ∷ ys) x = ap (λ (zs : List B). f y ∷ zs) (map_more ys x)

  pub map_set : (xs : List A) (i : ℕ) (d y : A) → f y ≡ f (get_or xs i d) → map f (slice_set xs i y) ≡ map f xs
  map_set [] i d y same = refl
  map_set (x ∷ xs) zero d y same = ap (λ (b : B). b ∷ map f xs) same
  map_set (x ∷ xs) (suc i) d y same = ap (λ (zs : List B). f x ∷ zs) (map_set xs i d y same)

module _ {A : Type 0} where
  pub length_more : (xs : List A) (x : A) → length (xs ++ x ∷ []) ≡ suc (length xs)
  length_more [] x = refl
  length_more (y ∷ ys) x = ap suc (length_more ys x)

  -- lists with one more are equal where both parts are
  pub snoc_last : (xs ys : List A) (x y : A) → xs ++ x ∷ [] ≡ ys ++ y ∷ [] → (xs ≡ ys) × (x ≡ y)
  snoc_last [] [] x y e = (refl, ap (λ (zs : List A). get_or zs 0 x) e)
  snoc_last [] (b ∷ ys) x y e = absurd (let n = ap length e in let m : length (ys ++ y ∷ []) ≡ suc (length ys) = len ys y in omega arith)
    where
      len : (zs : List A) (z : A) → length (zs ++ z ∷ []) ≡ suc (length zs)
      len [] z = refl
      len (w ∷ ws) z = ap suc (len ws z)
  snoc_last (a ∷ xs) [] x y e = absurd (let n = ap length e in let m : length (xs ++ x ∷ []) ≡ suc (length xs) = len xs x in omega arith)
    where
      len : (zs : List A) (z : A) → length (zs ++ z ∷ []) ≡ suc (length zs)
      len [] z = refl
      len (w ∷ ws) z = ap suc (len ws z)
  snoc_last (a ∷ xs) (b ∷ ys) x y e =
      let q = snoc_last xs ys x y (ap tail e) in ((λ k. head a (e k) ∷ q.0 k), q.1)
    where
      tail : List A → List A
      tail [] = []
      tail (z ∷ zs) = zs

      head : A → List A → A
      head d [] = d
      head d (z ∷ zs) = z

pub ok_map : {A E : Type 0} {P Q : A → Type 0} (r : Result A E) → ((a : A) → P a → Q a) → IfOk r P → IfOk r Q
ok_map (Ok a) f p = f a p
ok_map (Err e) f p = p

module _ {R : Type 0} (out : R → List Region) (faults : R → ℕ) (got : R → ℕ → Option Region → R → Type 0)
    (passed : R → Region → Bool → R → Type 0) {raw : Ghosts R} (pools : List (Option Stand)) (table : TableId)
    (lines : List TraceLine) where
  -- the last that stayed is done
  pub joins_last : (old mid new : Crew R raw) (w : Worker R raw) → old.stayed.items ≡ mid.stayed.items ++ w ∷ [] →
      mid.done ≡ old.done → Joins out faults got passed pools table lines (w.thread ∷ []) mid new →
      JoinsLast out faults got passed pools table lines old new
  joins_last old mid new w split same joins = record {
    crew = joins.crew;
    last = λ threads thread is.
        let cut = sym (map_more (λ (v : Worker R raw). v.thread) mid.stayed.items w) ∙ sym (ap threads_of split) ∙ is in
        let q = snoc_last (threads_of mid.stayed.items) threads w.thread thread cut in (
          joins.stayed ∙ q.0,
          joins.done ∙ (λ k. threads_of (same k).items ++ q.1 k ∷ []),
        );
  }

  -- one more is done
  pub joins_more : (threads : List ℕ) (old mid new : Crew R raw) (other thread : ℕ) → other ≡ thread →
      Joins out faults got passed pools table lines threads old mid →
      Joins out faults got passed pools table lines (other ∷ []) mid new →
      Joins out faults got passed pools table lines (threads ++ thread ∷ []) old new
  joins_more threads old mid new other thread is one two = record {
    crew = two.crew;
    done = two.done ∙ (λ k. one.done k ++ is k ∷ [])
        ∙ append_assoc (threads_of old.done.items) threads (thread ∷ []);
    stayed = two.stayed ∙ one.stayed;
  }

  -- one that stayed is done behind the others
  pub joins_stayed : (threads : List ℕ) (old with_one mid new : Crew R raw) (w : Worker R raw) (thread : ℕ) →
      w.thread ≡ thread → with_one.done ≡ old.done → with_one.stayed.items ≡ old.stayed.items ++ w ∷ [] →
      Joins out faults got passed pools table lines threads with_one mid →
      JoinsLast out faults got passed pools table lines mid new →
      Joins out faults got passed pools table lines (threads ++ thread ∷ []) old new
  joins_stayed threads old with_one mid new w thread is same stays one two =
      let stayed : threads_of mid.stayed.items ≡ threads_of old.stayed.items ++ thread ∷ [] = one.stayed ∙ ap threads_of stays
      ∙ map_more (λ (v : Worker R raw). v.thread) old.stayed.items w
      ∙ ap (λ (t : ℕ). threads_of old.stayed.items ++ t ∷ []) is in
      let q = two.last (threads_of old.stayed.items) thread stayed in
      record {
        crew = two.crew;
        done = q.1 ∙ ap (λ (ts : List ℕ). ts ++ thread ∷ []) one.done
            ∙ ap (λ (d : _). (threads_of d.items ++ threads) ++ thread ∷ []) same
            ∙ append_assoc (threads_of old.done.items) threads (thread ∷ []);
        stayed = q.0;
      }

  -- a worker more stays
  pub crew_stays : (old new : Crew R raw) (w : Worker R raw) → IsCrew out faults got passed pools table lines old →
      Works out faults got passed pools table lines w → new.done ≡ old.done → new.stayed.items ≡ old.stayed.items ++ w ∷ [] →
      IsCrew out faults got passed pools table lines new
  crew_stays old new w crew works same stays = record {
    done = subst (Each (IsDone out faults got passed pools table lines)) (sym (ap (λ (d : _). d.items) same)) crew.done;
    stayed = subst (Each (Works out faults got passed pools table lines)) (sym stays)
        (each_more (Works out faults got passed pools table lines) old.stayed.items w crew.stayed works);
  }

  -- the last of the workers
  pub is_next : (workers : List (Worker R raw)) (next : Next R raw) → workers ≡ next.rest.items ++ next.worker ∷ [] →
      Each (Works out faults got passed pools table lines) workers → IsNext out faults got passed pools table lines workers next
  is_next workers next split all =
      let q = each_front (Works out faults got passed pools table lines) next.rest.items next.worker
      (subst (Each (Works out faults got passed pools table lines)) split all) in
      record {
        worker = q.1;
        rest = q.0;
        threads = ap threads_of split ∙ map_more (λ (v : Worker R raw). v.thread) next.rest.items next.worker;
        fewer = let n : length workers ≡ suc (length next.rest.items) = ap length split ∙ length_more next.rest.items next.worker in omega arith;
      }
