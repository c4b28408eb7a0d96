-- The worked cases hold: one computed test over the definitions. Assumes nothing.
use mathlib.Core.Bool.{◌&&◌}
use mathlib.Core.Path.{◌≡◌}
use lib.Dec.{T}
use Rattle.arith.specs.Every.{every}
use Rattle.arith.specs.Fraction.{whole, integer, ratio, ◌+ᶠ◌, ◌-ᶠ◌, ◌*ᶠ◌, ◌/ᶠ◌, ◌÷ᶠ◌, ◌+ʳ◌}
use Rattle.arith.specs.Fraction.{reciprocal, at_most, is_same, held, floor, rounded_down}
use Rattle.arith.specs.Greatest.{greatest, first_greatest}
use Rattle.arith.specs.Halving.{halved_from, halved}
use Rattle.arith.proofs.Test.{and_yes}
use Rattle.materials.specs.Strength.{depth_factor, strength_factor, L, f, g, s, CRdc, crd}
use Rattle.materials.specs.Answer.{materials_in, materials_of, opened}
use Rattle.beyond.specs.Force as beyond
use Rattle.beyond.specs.Code.Bound.{steel_bound, bound}
use Rattle.equilibrium.specs.Force.{at, concrete_force, stress, layer_force, steel_force, internal_force}
use Rattle.equilibrium.specs.Force.{concrete_moment, layer_moment, steel_resistance, moment_resistance}
use Rattle.section.specs.Refusals.{section_tests, accepted}
use Rattle.equilibrium.specs.Refusals.{carries, up_to_10h}
use Rattle.section.specs.Turned.{turned}
use Rattle.equilibrium.specs.Depth.{depth_in}
use Rattle.equilibrium.specs.Moment.{resistance_at, moment_in}
use Rattle.shear.specs.SizeFactor.{K}
use Rattle.shear.specs.Shear.{r, q, v, c, concrete_share, axial_share, VRdc}
use Rattle.sequence.specs.Order.{in_order, ordered, insert, sorted}
use Rattle.record.specs.Bytes.{number_at, bytes_of}
use Rattle.record.specs.Map.{standing, map_with, only_fields, complete_to, complete}
use Rattle.record.specs.Contents.{layers_to, filled, section_of, load_of}
use Rattle.record.specs.Layout.{map_of, fields_to, fields, record_of}
use Rattle.record.specs.Refusals.{read_tests, write_tests}
use Rattle.record.specs.Read.{refused_reading, read_of}
use Rattle.links.specs.Links.{link_resistance, strut_resistance, strut_cotangent, spacing_ok, ratio_ok}
use Rattle.clauses.specs.Linked.{linked_report}
use Rattle.verdicts.specs.Tension.{tension_layers, total, mean_depth}
use Rattle.clauses.specs.Check.{report_of, report_at, check_in}
use Rattle.cases.specs.Case.{same_listed, holds, depth_holds, check_holds, layer_holds}
use Rattle.cases.specs.Cases.{cases, depth_rows, check_rows, layer_rows}
use Rattle.cases.proofs.Tried.{answers_by}
use Rattle.cases.proofs.Quick.{is_depth, found_at, tries, depths_sound, reports, shows, checks_sound, shows_layer, layers_sound}

-- the seal of the materials, opened for all of them at once
everywhere : materials_of ≡ materials_in
everywhere = λ i grade. opened grade i

all_hold : T (every holds cases && (every tries depth_rows && (every shows check_rows && every shows_layer layer_rows)))
unfolding cases depth_rows check_rows layer_rows section_tests accepted depth_in moment_in check_in read_tests read_of write_tests
all_hold = rw everywhere (
    unfold same_listed answers_by is_depth found_at reports
    whole integer ratio ◌+ᶠ◌ ◌-ᶠ◌ ◌*ᶠ◌ ◌/ᶠ◌ ◌÷ᶠ◌ ◌+ʳ◌ reciprocal at_most is_same held floor rounded_down
    greatest first_greatest halved_from halved
    depth_factor strength_factor L f g s CRdc crd
    at concrete_force stress layer_force steel_force internal_force concrete_moment layer_moment steel_resistance moment_resistance
    beyond.block_depth beyond.concrete_force beyond.below_point beyond.stress beyond.layer_force beyond.steel_force beyond.internal_force
    beyond.concrete_moment beyond.layer_moment beyond.steel_resistance beyond.moment_resistance steel_bound bound resistance_at
    turned carries up_to_10h
    tension_layers total mean_depth K r q v c concrete_share axial_share VRdc
    in_order ordered insert sorted map_with map_of fields_to fields record_of bytes_of
    number_at standing only_fields complete_to complete layers_to filled section_of load_of refused_reading
    link_resistance strut_resistance strut_cotangent spacing_ok ratio_ok linked_report report_of report_at
    in tt)

-- one list of rows after the other
with_depths : T (every holds cases) × T (every tries depth_rows && (every shows check_rows && every shows_layer layer_rows))
with_depths = and_yes (every holds cases) _ all_hold

with_checks : T (every tries depth_rows) × T (every shows check_rows && every shows_layer layer_rows)
with_checks = and_yes (every tries depth_rows) _ with_depths.1

with_layers : T (every shows check_rows) × T (every shows_layer layer_rows)
with_layers = and_yes (every shows check_rows) _ with_checks.1

pub cases_hold : T (every holds cases)
cases_hold = with_depths.0

pub depths_hold : T (every depth_holds depth_rows)
depths_hold = depths_sound depth_rows with_checks.0

pub checks_hold : T (every check_holds check_rows)
checks_hold = checks_sound check_rows with_layers.0

pub layers_hold : T (every layer_holds layer_rows)
layers_hold = layers_sound layer_rows with_layers.1
