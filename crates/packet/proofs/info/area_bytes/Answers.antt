use borrow.Author.Rules.{rules}
use borrow.Author.Tests.{ne_eqb}
use Rattle.lbp16.specs.Space.{space_of, space_number, is_absent, row}
use Rattle.lbp16.specs.Word.{bit}
use Rattle.lbp16.specs.Info.{memory_type, mem_sizes, mem_ranges, area_words}
use Rattle.packet.specs.Bytes.{bytes_of, pairs_of}
use Rattle.packet.specs.Command.{bytes_of_area}
use mathlib.Core.Path.{refl}
use Rattle.packet.proofs.info.area_bytes.Goals as goal

pub returns-in-0 : goal.returns-in-0
unfolding space_of is_absent space_number row bit memory_type mem_sizes mem_ranges area_words bytes_of_area
returns-in-0 c = rw c.in-0.is c.area.ensures

pub returns-in-2 : goal.returns-in-2
unfolding space_of is_absent space_number row bit memory_type mem_sizes mem_ranges area_words bytes_of_area
returns-in-2 c = rw c.in-2.is c.area-in-2.ensures

pub returns-in-6 : goal.returns-in-6
unfolding space_of is_absent space_number row bit memory_type mem_sizes mem_ranges area_words bytes_of_area
returns-in-6 c = rw c.in-6.is c.area-in-6.ensures

pub returns-in-7 : goal.returns-in-7
unfolding space_of is_absent space_number row bit memory_type mem_sizes mem_ranges area_words bytes_of_area
returns-in-7 c = rw c.in-7.is c.area-in-7.ensures

pub returns-in_default : goal.returns-in_default
unfolding space_of is_absent area_words bytes_of_area pairs_of bytes_of
returns-in_default c =
    let s = c.args.space in
    simp (ne_eqb s 0 (search rules), ne_eqb s 2 (search rules), ne_eqb s 6 (search rules), ne_eqb s 7 (search rules)) refl
