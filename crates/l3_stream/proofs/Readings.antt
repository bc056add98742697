-- The worked readings, computed.
use Rattle.std.proofs.Common.{refl}
use Rattle.l3_base.specs.Lengths.{remainder_of, slots_before}
use Rattle.l3_base.specs.Bands.{edges_at, edge_at}
use Rattle.l3_huff.specs.Tables.{is_table, width_at, first_at, linbits_at, lengths_of, values_of, codes_of, quad_lengths, quad_values, quad_codes}
use Rattle.l3_huff.specs.Reading.{sign_at, tail_at, pair_at, signs_at, quad_at}
use Rattle.l3_stream.specs.Units.{edge, table_at, zero_lines}
use Rattle.l3_stream.specs.Frames.{placed, blank}
use Rattle.l3_stream.specs.Header.{header_at, settings_of, settings_at}
use Rattle.l3_stream.specs.Side.{unit_side, front_bits}
use Rattle.l3_stream.specs.SideReading.{unit_side_of, has_fields, unit_side_passes, units_at, units_pass, front_passes, side_at}
use Rattle.l3_stream.specs.Tape.{start_of}
use Rattle.l3_stream.specs.Faults.{◌>>=◌, checked, or_fault, clear}
use Rattle.l3_stream.specs.UnitReading.{pairs_at, quads_at, with_lines, unit_at, main_units_at}
use Rattle.l3_stream.specs.Deviation.{head_at, main_at, slot_at, next_place, frames_from, reading_of}
use Rattle.l3_stream.specs.Cases.{ReadingsOfZeroSample, ReadingsOfOnePair, ReadingsInOrder}

pub of_zero_sample : ReadingsOfZeroSample
unfolding remainder_of slots_before edges_at edge_at is_table width_at first_at linbits_at lengths_of values_of codes_of quad_lengths quad_values quad_codes sign_at tail_at pair_at signs_at quad_at edge table_at zero_lines placed blank header_at settings_of settings_at unit_side unit_side_of has_fields unit_side_passes units_at units_pass front_bits front_passes side_at start_of ◌>>=◌ checked or_fault clear pairs_at quads_at with_lines unit_at main_units_at head_at main_at slot_at next_place frames_from reading_of
of_zero_sample = record {
  whole = refl;
  nothing = refl;
  last_bit_set = refl;
  last_byte_cut = refl;
  first_byte_zero = refl;
  begin_of_397 = refl;
  private_bit = refl;
  limit_of_one = refl;
  length_of_one = refl;
}

pub of_one_pair : ReadingsOfOnePair
unfolding remainder_of slots_before edges_at edge_at is_table width_at first_at linbits_at lengths_of values_of codes_of quad_lengths quad_values quad_codes sign_at tail_at pair_at signs_at quad_at edge table_at zero_lines placed blank header_at settings_of settings_at unit_side unit_side_of has_fields unit_side_passes units_at units_pass front_bits front_passes side_at start_of ◌>>=◌ checked or_fault clear pairs_at quads_at with_lines unit_at main_units_at head_at main_at slot_at next_place frames_from reading_of
of_one_pair = record {
  whole = refl;
  begins_in_the_code = refl;
  one_bit_more = refl;
  longer_than_the_slot = refl;
  no_line_left = refl;
}

pub in_order : ReadingsInOrder
unfolding remainder_of slots_before edges_at edge_at is_table width_at first_at linbits_at lengths_of values_of codes_of quad_lengths quad_values quad_codes sign_at tail_at pair_at signs_at quad_at edge table_at zero_lines placed blank header_at settings_of settings_at unit_side unit_side_of has_fields unit_side_passes units_at units_pass front_bits front_passes side_at start_of ◌>>=◌ checked or_fault clear pairs_at quads_at with_lines unit_at main_units_at head_at main_at slot_at next_place frames_from reading_of
in_order = record {
  limit_before_length = refl;
  length_before_header = refl;
  header_before_frame = refl;
  frame_before_side = refl;
  side_before_begin = refl;
  begin_before_zeros = refl;
  zeros_before_lengths = refl;
}
