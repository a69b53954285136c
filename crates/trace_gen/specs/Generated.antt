-- The trace that a seed, a number of threads and a number of calls make.
use Rattle.std.specs.Prelude.{ℕ, zero, suc, ◌+◌, ◌==◌, ◌%◌, Bool, ◌&&◌, nat_lt, if◌then◌else◌}
use Rattle.std.specs.Prelude.{List, [], ◌∷◌, ◌++◌, length, codes, remove, slice_index}
use Rattle.std.specs.Fmt.{decimal}
use Rattle.trace_gen.specs.declared.making.Making as kept
use Rattle.trace_gen.specs.Draws.{next_number, drawn}

-- the line by which a thread asks for so many bytes, and the one by which it frees what a name stands for
abbrev pub malloc_line : ℕ → ℕ → ℕ → List ℕ
malloc_line thread name size =
    codes "A" ++ (decimal thread ++ (codes " P0 v" ++ (decimal name
    ++ (codes " = malloc " ++ (decimal size ++ codes "\n")))))

abbrev pub free_line : ℕ → ℕ → List ℕ
free_line thread name = codes "A" ++ (decimal thread ++ (codes " P0 free v" ++ (decimal name ++ codes "\n")))

-- the line by which a thread leaves the pool
abbrev pub exit_line : ℕ → List ℕ
exit_line thread = codes "A" ++ (decimal thread ++ codes " P0 exit\n")

-- What there is of a trace: the number that was drawn last, the names whose objects are held, in the order in which
-- they came or were left, the number of the next name, and the text.
pub record Made : Type 0 where
  pub number : ℕ
  pub live : List ℕ
  pub next : ℕ
  pub text : List ℕ

abbrev pub made_of : kept.Making → Made
made_of m = record { number = m.number; live = m.live.items; next = m.next; text = m.text.items }

-- the size that two draws make: one in sixteen is above the greatest class
abbrev pub size_of : ℕ → ℕ → ℕ
size_of chance size = if chance % 16 == 0 then 8129 + size % 60000 else size % 2000

-- a malloc by this thread: two draws make its size
abbrev pub after_malloc : ℕ → Made → Made
after_malloc thread made =
    let chance = next_number made.number in
    let size = next_number chance in
    record {
      number = size;
      live = made.live ++ made.next ∷ [];
      next = made.next + 1;
      text = made.text ++ malloc_line thread made.next (size_of (drawn chance) (drawn size));
    }

-- a free by this thread: a draw says which of the live names
abbrev pub after_free : ℕ → Made → Made
after_free thread made =
    let number = next_number made.number in
    let at = drawn number % length made.live in
    record {
      number = number;
      live = remove made.live at;
      next = made.next;
      text = made.text ++ free_line thread (slice_index made.live at);
    }

-- a draw says whether the call is a free, where there is something to free
abbrev pub is_free : ℕ → List ℕ → Bool
is_free draw live = nat_lt 0 (length live) && nat_lt (draw % 8) 4

-- one call, where there are so many threads: the first draw says by which, the second what it is
unfoldable pub after_call : ℕ → Made → Made
after_call threads made =
    let first = next_number made.number in
    let second = next_number first in
    let thread = drawn first % threads in
    let drawn_two = record made { number = second } in
    if is_free (drawn second) made.live then after_free thread drawn_two else after_malloc thread drawn_two

-- the names of so many threads, each behind a space
abbrev pub thread_words : ℕ → List ℕ
thread_words zero = []
thread_words (suc threads) = thread_words threads ++ (codes " A" ++ decimal threads)

-- before the first call: the lines that name the threads and make the pool
abbrev pub begun : ℕ → ℕ → Made
begun seed threads = record {
  number = seed;
  live = [];
  next = 0;
  text = codes "threads" ++ thread_words threads ++ codes "\npool P0\n";
}

-- after so many calls
abbrev pub after_calls : ℕ → ℕ → ℕ → Made
after_calls seed threads zero = begun seed threads
after_calls seed threads (suc calls) = after_call threads (after_calls seed threads calls)

-- the first thread frees so many of the live names, in their order
abbrev pub free_lines : List ℕ → ℕ → List ℕ
free_lines live zero = []
free_lines live (suc count) = free_lines live count ++ free_line 0 (slice_index live count)

-- so many threads leave the pool, in their order
abbrev pub exit_lines : ℕ → List ℕ
exit_lines zero = []
exit_lines (suc threads) = exit_lines threads ++ exit_line threads

-- the end: what is left is freed, and each thread leaves
abbrev pub ended : ℕ → Made → List ℕ
ended threads made = made.text ++ free_lines made.live (length made.live) ++ exit_lines threads

-- The whole trace. It never depends on what a pool answers.
unfoldable pub generated : ℕ → ℕ → ℕ → List ℕ
generated seed threads calls = ended threads (after_calls seed threads calls)
