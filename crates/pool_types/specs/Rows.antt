-- The rows of the table of atomic steps, and their names.
use Rattle.std.specs.Prelude.{ℕ, List, [], ◌∷◌, codes}
use Rattle.pool_types.specs.declared.rows.Row.{Row}
use Rattle.pool_types.specs.declared.rows.Row.TheVariants.{M1, M2, M3, M4, M5, M6, M7, M8, P1, P2, P3, P4, P5, P6}
use Rattle.pool_types.specs.declared.rows.Row.TheVariants.{N1, N2, N3, N4, N5, N6, N7, O1, O2, O3, O4, O5, O6, O7, O8}
use Rattle.pool_types.specs.declared.rows.Row.TheVariants.{G1, G2, G3, G4, G5, G6, G7, G8, B1, B2, B3, B4, B5, B6}
use Rattle.pool_types.specs.declared.rows.Row.TheVariants.{Q1, Q2, Q3, Q4, Q5, C1, C2, C3, C4, C5, C6, C7}
use Rattle.pool_types.specs.declared.rows.Row.TheVariants.{F1, F2, F3, F4, F5, F6, F7, F8, F9, F10}
use Rattle.pool_types.specs.declared.rows.Row.TheVariants.{J1, J2, Nothing}

-- the rows that name a step, in the order of the table
abbrev pub all_rows : List Row
all_rows =
    M1 ∷ M2 ∷ M3 ∷ M4 ∷ M5 ∷ M6 ∷ M7 ∷ M8 ∷
    P1 ∷ P2 ∷ P3 ∷ P4 ∷ P5 ∷ P6 ∷
    N1 ∷ N2 ∷ N3 ∷ N4 ∷ N5 ∷ N6 ∷ N7 ∷
    O1 ∷ O2 ∷ O3 ∷ O4 ∷ O5 ∷ O6 ∷ O7 ∷ O8 ∷
    G1 ∷ G2 ∷ G3 ∷ G4 ∷ G5 ∷ G6 ∷ G7 ∷ G8 ∷
    B1 ∷ B2 ∷ B3 ∷ B4 ∷ B5 ∷ B6 ∷
    Q1 ∷ Q2 ∷ Q3 ∷ Q4 ∷ Q5 ∷
    C1 ∷ C2 ∷ C3 ∷ C4 ∷ C5 ∷ C6 ∷ C7 ∷
    F1 ∷ F2 ∷ F3 ∷ F4 ∷ F5 ∷ F6 ∷ F7 ∷ F8 ∷ F9 ∷ F10 ∷
    J1 ∷ J2 ∷ []

-- a row's name
abbrev pub row_name : Row → List ℕ
row_name M1 = codes "M1"
row_name M2 = codes "M2"
row_name M3 = codes "M3"
row_name M4 = codes "M4"
row_name M5 = codes "M5"
row_name M6 = codes "M6"
row_name M7 = codes "M7"
row_name M8 = codes "M8"
row_name P1 = codes "P1"
row_name P2 = codes "P2"
row_name P3 = codes "P3"
row_name P4 = codes "P4"
row_name P5 = codes "P5"
row_name P6 = codes "P6"
row_name N1 = codes "N1"
row_name N2 = codes "N2"
row_name N3 = codes "N3"
row_name N4 = codes "N4"
row_name N5 = codes "N5"
row_name N6 = codes "N6"
row_name N7 = codes "N7"
row_name O1 = codes "O1"
row_name O2 = codes "O2"
row_name O3 = codes "O3"
row_name O4 = codes "O4"
row_name O5 = codes "O5"
row_name O6 = codes "O6"
row_name O7 = codes "O7"
row_name O8 = codes "O8"
row_name G1 = codes "G1"
row_name G2 = codes "G2"
row_name G3 = codes "G3"
row_name G4 = codes "G4"
row_name G5 = codes "G5"
row_name G6 = codes "G6"
row_name G7 = codes "G7"
row_name G8 = codes "G8"
row_name B1 = codes "B1"
row_name B2 = codes "B2"
row_name B3 = codes "B3"
row_name B4 = codes "B4"
row_name B5 = codes "B5"
row_name B6 = codes "B6"
row_name Q1 = codes "Q1"
row_name Q2 = codes "Q2"
row_name Q3 = codes "Q3"
row_name Q4 = codes "Q4"
row_name Q5 = codes "Q5"
row_name C1 = codes "C1"
row_name C2 = codes "C2"
row_name C3 = codes "C3"
row_name C4 = codes "C4"
row_name C5 = codes "C5"
row_name C6 = codes "C6"
row_name C7 = codes "C7"
row_name F1 = codes "F1"
row_name F2 = codes "F2"
row_name F3 = codes "F3"
row_name F4 = codes "F4"
row_name F5 = codes "F5"
row_name F6 = codes "F6"
row_name F7 = codes "F7"
row_name F8 = codes "F8"
row_name F9 = codes "F9"
row_name F10 = codes "F10"
row_name J1 = codes "J1"
row_name J2 = codes "J2"
row_name Nothing = []
