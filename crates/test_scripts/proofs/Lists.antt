-- Lists that grow.
use Rattle.std.proofs.Common.{refl, ap, ◌≡◌, List, [], ◌∷◌, ◌++◌, map}

pub map_append : {X Y : Type 0} (f : X → Y) (a b : List X) → map f (a ++ b) ≡ map f a ++ map f b
map_append f [] b = refl
map_append f (x ∷ a) b = ap (λ t. f x ∷ t) (map_append f a b)
