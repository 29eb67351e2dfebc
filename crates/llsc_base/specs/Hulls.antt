-- The hull of the spans that aren't written.
use Rattle.std.specs.Prelude.{◌^◌, max, min, if◌then◌else◌, List, fold}
use Rattle.llsc_base.specs.declared.images.Span.{Span}
use Rattle.llsc_base.specs.declared.hulls.Hull.{Hull}

-- a hull with one more span in it, if that isn't written
abbrev pub hull_with : Hull → Span → Hull
hull_with hull span =
    if span.write then hull else record { start = min hull.start span.start; end = max hull.end span.end }

-- from the least start of the spans that aren't written up to their greatest end, and no address where there are none
unfoldable pub hull_of : List Span → Hull
hull_of spans = fold hull_with (record { start = 2 ^ 32; end = 0 }) spans
