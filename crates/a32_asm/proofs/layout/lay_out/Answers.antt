use Rattle.std.proofs.Common.{refl, ◌∙◌}
use Rattle.std.specs.Option.{option_map}
use Rattle.a32_asm.proofs.LaidLines.{held_after, spot_read, places_rise, layout_held}
use Rattle.a32_asm.proofs.layout.lay_out.Goals as goal

pub loop-left-preserved : goal.loop-left-preserved
loop-left-preserved c =
    held_after c.loop-left.spot c.next_spot-spot.result c.loop-left.places.items c.add_place.new.places.items c.args.text.now c.loop-left.left c.first_line.result.1
    c.in-Some.rest c.first_line.result.0.now c.read_line-line.result.indent (option_map (λ name. name.now) c.read_line-line.result.label)
    c.in-Some.is c.loop-left.invariant c.first_line.ensures.lines c.first_line.ensures.bytes c.first_line.ensures.line c.first_line.ensures.rest
    c.read_line-line.ensures.indent c.read_line-line.ensures.label c.in_ok-add_place.ensures
    (c.next_spot-spot.ensures ∙ spot_read c.loop-left.spot c.read_line-line.result c.first_line.result.0.now c.read_line-line.ensures.ascii c.read_line-line.ensures.head c.read_line-line.ensures.statement)

pub new-requires : goal.new-requires
new-requires c = places_rise c.loop-left.places.items c.loop-left.spot c.args.text.now c.loop-left.left c.in_default.is c.loop-left.invariant

pub returns : goal.returns
returns c =
    layout_held c.loop-left.places.items c.loop-left.spot c.args.text.now c.loop-left.left c.in_default.is c.loop-left.invariant
    (record { labels = c.new.result; words = c.loop-left.spot.words }) c.new.ensures refl
