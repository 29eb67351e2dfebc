use Rattle.history.specs.Accesses.{history_of}
use Rattle.llsc_call.proofs.TracesAlone.{trace_alone}
use Rattle.llsc_call.proofs.laws.one_threads_trace_ends_as_alone.Goals as goal

pub returns : goal.returns
returns c program size seed run end one is number ends = (
  one,
  record {
    number = number;
    history = history_of run.accesses;
    alone = trace_alone program size seed run one is;
    end_in = ends;
  },
)
