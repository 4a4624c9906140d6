-- The symbols of a table with the addresses that addition modulo 2 ^ 64 gives.
use Rattle.std.specs.Prelude.{◌+◌, ◌%◌, ◌^◌, false, List, [], ◌∷◌, ◌++◌, Option, Some, None}
use Rattle.wild_value_spec.specs.Known.{Known, Address, number_at}
use Rattle.wild_plan_spec.specs.declared.chunk.Chunk.{Chunk}
use Rattle.wild_plan_spec.specs.declared.chunk.Kept.{Kept}
use Rattle.wild_plan_spec.specs.declared.placed.PlacedSymbol.{PlacedSymbol}
use Rattle.wild_plan_spec.specs.declared.row.SymbolRow.{SymbolRow}
use Rattle.wild_plan_spec.specs.Definitions.{symbol_chunk}

-- a symbol of the table, in the chunk of its row
abbrev pub wrapped_symbol : Known → SymbolRow → Option Chunk → List PlacedSymbol
wrapped_symbol known s None = []
wrapped_symbol known s (Some chunk) = record { name = s.name; address = (number_at known (Address s.row) + s.offset) % 2 ^ 64; «section» = Some chunk.«section»; hidden = false } ∷ []

-- in table order
abbrev pub wrapped_symbols : Known → List (Option Kept) → List SymbolRow → List PlacedSymbol
wrapped_symbols known fates [] = []
wrapped_symbols known fates (s ∷ ss) = wrapped_symbol known s (symbol_chunk fates s) ++ wrapped_symbols known fates ss
