-- The limits of traces, pools and regions. All of them are this project's own.
use Rattle.std.specs.Prelude.{ℕ, ◌^◌}

-- a trace: its bytes, its lines, the bytes of a line before the newline, its threads and its pools
abbrev pub most_trace_bytes : ℕ
most_trace_bytes = 4194304

abbrev pub most_lines : ℕ
most_lines = 65536

abbrev pub most_line_bytes : ℕ
most_line_bytes = 1024

abbrev pub most_threads : ℕ
most_threads = 64

abbrev pub most_pools : ℕ
most_pools = 8

-- the turns of a line that steps a call
abbrev pub most_turns : ℕ
most_turns = 1000000

-- the spans, versions and reserved words that a pool's options can name lie below this
abbrev pub option_numbers : ℕ
option_numbers = 2 ^ 32

-- the bytes of a thread's name, and of a bound name
abbrev pub thread_name_bytes : ℕ
thread_name_bytes = 8

abbrev pub bound_name_bytes : ℕ
bound_name_bytes = 16

-- a pool: its seats, its granule indices, and the regions that it has out
abbrev pub most_seats : ℕ
most_seats = 64

abbrev pub most_span : ℕ
most_span = 1024

abbrev pub most_regions : ℕ
most_regions = 64

-- the numbers of a pool's regions lie below this
abbrev pub region_numbers : ℕ
region_numbers = 4194304

-- the least region that may be asked for has at most so many bytes, and so has the granularity
abbrev pub most_region_bytes : ℕ
most_region_bytes = 8388608

-- the span and the least region of a pool whose line has no such option
abbrev pub plain_span : ℕ
plain_span = 1024

abbrev pub plain_region_bytes : ℕ
plain_region_bytes = 1048576
