-- The report of a run.
use Rattle.std.specs.Prelude.{ℕ, ◌<◌, ◌^◌, List, ◌++◌, length, codes}
use Rattle.std.specs.Fmt.{decimal}
use Rattle.std.specs.List.{flat_map, sum_by}
use Rattle.number_text.specs.Hexadecimal.{word_text}
use Rattle.llsc_base.specs.declared.outside.Stop.{Stop}
use Rattle.llsc_base.specs.declared.outside.Stop.TheVariants.{Exit, Undefined, Unpredictable, Alignment, Outside, ReadOnly, Thumb, Budget, TagLimit}
use Rattle.guest_thread.specs.declared.ends.GuestEnd.{GuestEnd}

-- a stop by its name and its number: a code, an address, or for the budget the budget itself
abbrev pub stop_text : ℕ → Stop → List ℕ
stop_text budget (Exit code) = codes "exit " ++ decimal code
stop_text budget (Undefined pc) = codes "undefined " ++ word_text pc
stop_text budget (Unpredictable pc) = codes "unpredictable " ++ word_text pc
stop_text budget (Alignment addr) = codes "alignment " ++ word_text addr
stop_text budget (Outside addr) = codes "outside " ++ word_text addr
stop_text budget (ReadOnly addr) = codes "readonly " ++ word_text addr
stop_text budget (Thumb pc) = codes "thumb " ++ word_text pc
stop_text budget Budget = codes "budget " ++ decimal budget
stop_text budget (TagLimit addr) = codes "taglimit " ++ word_text addr

-- the line of a thread, with how many bytes its output has
abbrev pub head_line : ℕ → GuestEnd → List ℕ
head_line budget end =
    codes "thread " ++ (decimal end.thread ++ (codes " stop " ++ (stop_text budget end.stop ++ (codes " steps " ++ (decimal end.steps ++ (codes " out " ++ (decimal (length end.out) ++ codes "\n")))))))

-- what is said of a thread: its line, and its output with a newline behind it
abbrev pub thread_text : ℕ → GuestEnd → List ℕ
thread_text budget end = head_line budget end ++ (end.out ++ codes "\n")

-- the line of the counts, each of all threads together
abbrev pub last_line : List GuestEnd → List ℕ
last_line ends =
    codes "reads " ++ (decimal (sum_by (λ end. end.reads) ends) ++ (codes " writes " ++ (decimal (sum_by (λ end. end.writes) ends)
    ++ (codes " fails " ++ (decimal (sum_by (λ end. end.fails) ends) ++ codes "\n")))))

-- the report of a run: what is said of each thread in turn, and the line of the counts
abbrev pub report_of : ℕ → List GuestEnd → List ℕ
report_of budget ends = flat_map (thread_text budget) ends ++ last_line ends

-- no count of all threads together is more than a number of 64 bits can be
pub record HasSums (ends : List GuestEnd) : Type 0 where
  pub reads : sum_by (λ end. end.reads) ends < 2 ^ 64
  pub writes : sum_by (λ end. end.writes) ends < 2 ^ 64
  pub fails : sum_by (λ end. end.fails) ends < 2 ^ 64
