-- The stops to which a thread of these instructions comes.
use Rattle.llsc_base.specs.declared.outside.Stop.{Stop}
use Rattle.llsc_base.specs.declared.outside.Stop.TheVariants.{TagLimit, Thumb, Unpredictable}

-- all but those for code of another state of an Arm processor, for words whose effect is left open, and for want of a write in a
-- class, which is memory's
abbrev pub IsStop : Stop → Type 0
IsStop (Thumb addr) = ⊥
IsStop (Unpredictable addr) = ⊥
IsStop (TagLimit addr) = ⊥
IsStop _ = Unit {0}
