-- What is written of a text in LaTeX prints that text.
use Rattle.std.proofs.Common.{ℕ, List, [], ◌∷◌, ◌++◌, refl}
use Rattle.tables.proofs.Bytes.{by_byte}
use Rattle.tables.specs.Texts.{latex_byte, latex_text}
use Rattle.tables.specs.Printing.{Prints, end, plain, grouped, escaped, backslash, tilde, caret}

module _ (text source : List ℕ) (p : Prints text source) where
  abbrev Goes : ℕ → Type 0
  Goes b = Prints (b ∷ text) (latex_byte b ++ source)

  one : (b : ℕ) → Goes b
  one b =
      by_byte Goes 92 b (backslash p) (λ e92.
      by_byte Goes 126 b (tilde p) (λ e126.
      by_byte Goes 94 b (caret p) (λ e94.
      by_byte Goes 123 b (escaped 123 refl p) (λ e123.
      by_byte Goes 125 b (escaped 125 refl p) (λ e125.
      by_byte Goes 36 b (escaped 36 refl p) (λ e36.
      by_byte Goes 38 b (escaped 38 refl p) (λ e38.
      by_byte Goes 35 b (escaped 35 refl p) (λ e35.
      by_byte Goes 95 b (escaped 95 refl p) (λ e95.
      by_byte Goes 37 b (escaped 37 refl p) (λ e37.
      by_byte Goes 91 b (grouped 91 refl p) (λ e91.
      by_byte Goes 42 b (grouped 42 refl p) (λ e42.
      rw e92 (rw e126 (rw e94 (rw e123 (rw e125 (rw e36 (rw e38 (rw e35 (rw e95 (rw e37 (rw e91 (rw e42 (plain b (rw e92 (rw e123 (rw e125 (rw e36 (rw e38 (rw e35 (rw e95 (rw e37 (rw e126 (rw e94 refl)))))))))) p))))))))))))))))))))))))

pub prints_latex : (text : List ℕ) → Prints text (latex_text text)
prints_latex [] = end
prints_latex (b ∷ t) = one t (latex_text t) (prints_latex t) b
