-- One word alone, and two words.
use Rattle.std.proofs.Common.{◌≡◌, ℕ, ◌<◌, ◌≤◌, List, [], ◌∷◌, length, slice_index_or, String, string_bytes, ap, sym, ◌∙◌, arith}
use Rattle.std.specs.declared.alloc.Global.{Global}
use Rattle.intake.specs.Arguments.{texts}

pub alone : (ws : List (String Global)) (w : String Global) (bs : List ℕ) → 1 ≤ length ws → length ws < 2 → w ≡ slice_index_or ws 0 w → string_bytes w ≡ bs → bs ∷ [] ≡ texts ws
alone [] w bs some one is says = absurd (omega (arith, some))
alone (x ∷ []) w bs some one is says = ap (λ b. b ∷ []) (sym says ∙ ap string_bytes is)
alone (x ∷ (y ∷ ws)) w bs some one is says = absurd (omega (arith, one))

pub two : (ws : List (String Global)) (w v : String Global) (bs cs : List ℕ) → 2 ≤ length ws → length ws < 3 → w ≡ slice_index_or ws 0 w → v ≡ slice_index_or ws 1 v → string_bytes w ≡ bs → string_bytes v ≡ cs → texts ws ≡ bs ∷ cs ∷ []
two [] w v bs cs some few is_w is_v says_w says_v = absurd (omega (arith, some))
two (x ∷ []) w v bs cs some few is_w is_v says_w says_v = absurd (omega (arith, some))
two (x ∷ y ∷ []) w v bs cs some few is_w is_v says_w says_v = ap (λ b. b ∷ string_bytes y ∷ []) (ap string_bytes (sym is_w) ∙ says_w) ∙ ap (λ c. bs ∷ c ∷ []) (ap string_bytes (sym is_v) ∙ says_v)
two (x ∷ y ∷ z ∷ ws) w v bs cs some few is_w is_v says_w says_v = absurd (omega (arith, few))
