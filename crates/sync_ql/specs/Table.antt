-- The quality levels of each network option. After G.781, quality levels of options I and II.
-- That a level may have an enhanced code beside its SSM code is after G.8264; the enhanced levels,
-- their places and both their codes, as paired here, are this project's own.
use Rattle.std.specs.Prelude.{ℕ, List, [], ◌∷◌, codes}
use Rattle.sync_ql.specs.declared.levels.NetOption.{NetOption}
use Rattle.sync_ql.specs.declared.levels.NetOption.TheVariants.{I, II}

-- the enhanced code of a level that its SSM code alone names
abbrev pub not_enhanced : ℕ
not_enhanced = 0xff

-- a row of the table: the level's name, the four-bit SSM code that messages carry for it, and the
-- enhanced code that stands beside it
pub record Row : Type 0 where
  pub name : List ℕ
  pub code : ℕ
  pub enhanced : ℕ

abbrev pub row : List ℕ → ℕ → ℕ → Row
row name code enhanced = record { name = name; code = code; enhanced = enhanced }

-- the rows of an option's table, best first. The place of QL-PROV is this project's own
abbrev pub levels_of : NetOption → List Row
levels_of I =
    row (codes "QL-ePRTC") 0x2 0x21
    ∷ row (codes "QL-PRTC") 0x2 0x20
    ∷ row (codes "QL-ePRC") 0x2 0x23
    ∷ row (codes "QL-PRC") 0x2 not_enhanced
    ∷ row (codes "QL-SSU-A") 0x4 not_enhanced
    ∷ row (codes "QL-SSU-B") 0x8 not_enhanced
    ∷ row (codes "QL-eEEC") 0xb 0x22
    ∷ row (codes "QL-SEC") 0xb not_enhanced
    ∷ row (codes "QL-DNU") 0xf not_enhanced
    ∷ []
levels_of II =
    row (codes "QL-ePRTC") 0x1 0x21
    ∷ row (codes "QL-PRTC") 0x1 0x20
    ∷ row (codes "QL-ePRC") 0x1 0x23
    ∷ row (codes "QL-PRS") 0x1 not_enhanced
    ∷ row (codes "QL-STU") 0x0 not_enhanced
    ∷ row (codes "QL-ST2") 0x7 not_enhanced
    ∷ row (codes "QL-TNC") 0x4 not_enhanced
    ∷ row (codes "QL-ST3E") 0xd not_enhanced
    ∷ row (codes "QL-eEEC") 0xa 0x22
    ∷ row (codes "QL-ST3") 0xa not_enhanced
    ∷ row (codes "QL-SMC") 0xc not_enhanced
    ∷ row (codes "QL-PROV") 0xe not_enhanced
    ∷ row (codes "QL-DUS") 0xf not_enhanced
    ∷ []
