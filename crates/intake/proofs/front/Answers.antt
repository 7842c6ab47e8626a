use Rattle.std.proofs.Common.{◌≡◌, ℕ, IfSome, List, [], ◌++◌, take, Option, Some, None, ap, ◌∙◌, rules, arith}
use Rattle.std.specs.Option.{option_map}
use Rattle.std.proofs.lemmas.List.{take-take}
use Rattle.intake.proofs.front.Goals as goal

-- what is cut to the room twice is cut once
once : (known : Option (List ℕ)) (none items after : List ℕ) (limit room : ℕ) → none ≡ [] → limit ≡ room → IfSome (option_map (take limit) known) (λ xs. items ≡ none ++ xs) → after ≡ take room items → IfSome known (λ xs. after ≡ take room xs)
once None none items after limit room begun is told cut = search rules
once (Some xs) none items after limit room begun is told cut = cut ∙ ap (take room) (told ∙ ap (λ l. l ++ take limit xs) begun ∙ ap (λ k. take k xs) is) ∙ take-take room room xs (omega arith)

pub returns-clause-bytes : goal.returns-clause-bytes
returns-clause-bytes g c =
    let taken = c.take.result in
    let read = c.read_to_end.new.buf.items in
    once (g.R.Read.remaining c.args.reader) c.new-bytes.result.items read c.truncate.new.self.items taken.limit c.args.room c.new-bytes.ensures.items c.take.ensures.limit (search rules) c.truncate.ensures.items
