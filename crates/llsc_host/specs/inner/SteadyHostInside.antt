-- Only proofs and inner contracts need these words beside those of `specs/SteadyHostInside`.
use Rattle.llsc_host.specs.SteadyHost.{Steady}
use Rattle.llsc_host.specs.declared.steady_host.SteadyHost.TheInside.{Inside}

-- what the host holds
abbrev pub steady_of : Inside → Steady
steady_of h = record {
  file = h.file.items;
  space = h.space;
  kept = h.kept.items;
  past = h.past;
}
