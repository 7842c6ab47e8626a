-- What LaTeX prints of a source. Assumes nothing.
use Rattle.std.specs.Prelude.{◌≡◌, ℕ, Bool, false, true, List, [], ◌∷◌, ◌++◌, codes, ◌==◌, ◌||◌}

-- LaTeX's own characters \ { } $ & # _ % ~ ^, none of which a source may have as it stands
abbrev pub is_special : ℕ → Bool
is_special b = (b == 92) || (b == 123) || (b == 125) || (b == 36) || (b == 38) || (b == 35) || (b == 95) || (b == 37) || (b == 126) || (b == 94)

-- those of them that are printed where a backslash stands before them: { } $ & # _ %
abbrev pub is_escapable : ℕ → Bool
is_escapable b = (b == 123) || (b == 125) || (b == 36) || (b == 38) || (b == 35) || (b == 95) || (b == 37)

-- the text is what is printed of the source
pub data Prints : List ℕ → List ℕ → Type 0 where
  end : Prints [] []
  plain : {text source : List ℕ} → (b : ℕ) → is_special b ≡ false → Prints text source → Prints (b ∷ text) (b ∷ source)
  grouped : {text source : List ℕ} → (b : ℕ) → is_special b ≡ false → Prints text source → Prints (b ∷ text) (123 ∷ b ∷ 125 ∷ source)
  escaped : {text source : List ℕ} → (b : ℕ) → is_escapable b ≡ true → Prints text source → Prints (b ∷ text) (92 ∷ b ∷ source)
  backslash : {text source : List ℕ} → Prints text source → Prints (92 ∷ text) (codes "\\textbackslash{}" ++ source)
  tilde : {text source : List ℕ} → Prints text source → Prints (126 ∷ text) (codes "\\textasciitilde{}" ++ source)
  caret : {text source : List ℕ} → Prints text source → Prints (94 ∷ text) (codes "\\textasciicircum{}" ++ source)
