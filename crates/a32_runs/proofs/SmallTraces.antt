-- Traces and ends of the small programs.
use Rattle.std.proofs.Common.{ℕ, ◌<◌, false, [], ◌∷◌, refl, lit<, lit≤}
use Rattle.llsc_base.specs.Memory.{number_of}
use Rattle.history.specs.ArmLegal.{IsSound}
use Rattle.history.specs.declared.entry.Entry.TheVariants.{Read}
use Rattle.llsc_base.specs.declared.outside.Ask.TheVariants.{Load}
use Rattle.llsc_base.specs.declared.outside.Stop.TheVariants.{Exit, Budget}
use Rattle.std.specs.List.{All}
use Rattle.std.proofs.lemmas.List.Elements.{All-cons, All-nil}
use Rattle.run_record.specs.Limits.{IsAccess}
use Rattle.guest_machine.specs.Alone.{IsSoloEnd}
use Rattle.guest_machine.specs.Turns.{Takes, begins, makes, stops, IsTrace}
use Rattle.guest_machine.specs.Worked.{first_word}
use Rattle.a32_runs.specs.Turns.{leaving, load_by, loading, silent_end, small_machine}
use Rattle.a32_runs.proofs.TracedRuns.{asks_at_once, leaves_after_a_load, leaves_at_once, spends_one}
use Rattle.a32_step.specs.Machine.{a32}

-- thread 1 of two loads first
pub one_load : Takes a32 loading (small_machine 2) 0 10 1442695040888963407 (0 ∷ 1 ∷ []) (load_by 1 0xE5942000 ∷ [])
unfolding number_of
one_load = makes 0 (0 ∷ 1 ∷ []) [] 1 (Load first_word) begins refl (asks_at_once 2 1)

two_loads : Takes a32 loading (small_machine 2) 0 10 1876011003808476466 (0 ∷ 1 ∷ []) (load_by 1 0xE5942000 ∷ load_by 0 0xE5942000 ∷ [])
unfolding number_of
two_loads = makes 1442695040888963407 (0 ∷ 1 ∷ []) (load_by 1 0xE5942000 ∷ []) 0 (Load first_word) one_load refl (asks_at_once 2 0)

-- both have loaded and left
pub both_loaded : IsTrace a32 loading (small_machine 2) 0 10 (load_by 1 0xE5942000 ∷ load_by 0 0xE5942000 ∷ [])
both_loaded = (
  7401132627792533940,
  stops 11166244414315200793 (0 ∷ []) _ 0 (Exit 0) 3 []
      (stops 1876011003808476466 (0 ∷ 1 ∷ []) _ 1 (Exit 1) 3 [] two_loads refl (leaves_after_a_load 2 1))
      refl (leaves_after_a_load 2 0),
)

-- one thread leaves at once
pub none_loaded : IsTrace a32 leaving (small_machine 1) 0 10 []
none_loaded = (1442695040888963407, stops 0 (0 ∷ []) [] 0 (Exit 0) 2 [] begins refl (leaves_at_once 1 0))

-- the load of the first word is sound
pub sound_load : (threads t : ℕ) → t < threads → IsSound threads 12 t first_word 0xE5942000
sound_load threads t known = record { known = known; aligned = refl; inside = lit≤ tt; fits = lit< tt }

-- a thread alone that leaves at once
pub alone_at_once : IsSoloEnd a32 leaving (small_machine 1) 10 (silent_end 0 (Exit 0) 2 0)
alone_at_once = (
  refl,
  record {
    number = refl;
    history = [];
    alone = record { legal = tt; decided = tt };
    end_in = record { ends = leaves_at_once 1 0; counts = record { reads = refl; writes = refl; fails = refl } };
  },
)

-- one whose steps are spent
pub alone_spent : IsSoloEnd a32 leaving (small_machine 1) 1 (silent_end 0 Budget 1 0)
alone_spent = (
  refl,
  record {
    number = refl;
    history = [];
    alone = record { legal = tt; decided = tt };
    end_in = record { ends = spends_one 1 0; counts = record { reads = refl; writes = refl; fails = refl } };
  },
)

-- one that loads before it leaves
pub alone_after_a_load : IsSoloEnd a32 loading (small_machine 1) 10 (silent_end 0 (Exit 0) 3 1)
unfolding number_of
alone_after_a_load = (
  refl,
  record {
    number = refl;
    history = Read 0 first_word 0xE5942000 false ∷ [];
    alone = record { legal = ((sound_load 1 0 (lit< tt), refl), tt); decided = (tt, tt) };
    end_in = record { ends = leaves_after_a_load 1 0; counts = record { reads = refl; writes = refl; fails = refl } };
  },
)

-- a record may have a load
well : (t : ℕ) → t < 2 → IsAccess 2 (load_by t 0xE5942000)
well t known = record {
  thread = known;
  formed = record { addr = lit< tt; aligned = refl; fits = lit< tt; clear = λ clears. absurd (let f : ⊥ = cc in f) };
}

pub both_well : All (IsAccess 2) (load_by 1 0xE5942000 ∷ load_by 0 0xE5942000 ∷ [])
both_well =
    All-cons (IsAccess 2) (load_by 1 0xE5942000) (load_by 0 0xE5942000 ∷ []) (well 1 (lit< tt))
    (All-cons (IsAccess 2) (load_by 0 0xE5942000) [] (well 0 (lit< tt)) (All-nil (IsAccess 2)))
