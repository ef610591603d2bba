-- Homes, streams and the bodies of blocks are told apart by their parts.
use Rattle.std.specs.Prelude.{◌≡◌, ℕ, ◌==◌, cond, List, [], Option, None, Some, refl}
use Rattle.std.specs.Coded.{Coded, code_by, coded×, coded_ℕ, coded_list, coded_option}
use Rattle.template_machine_meaning.specs.Keys.{Home, rendered, standing, kept, Stream, own, block_of}
use Rattle.template_machine_meaning.specs.Bodies.{Bodies}
use Rattle.template_machine_tables.specs.Streams.{stream_at}

-- a home as the number of its constructor, the name and the number that it may hold
abbrev pub home_parts : Home → ℕ × (List ℕ × ℕ)
home_parts rendered = (0, ([], 0))
home_parts (standing name) = (1, (name, 0))
home_parts (kept n) = (2, ([], n))

abbrev pub home_back : ℕ × (List ℕ × ℕ) → Home
home_back p = cond (p.0 == 0) rendered (cond (p.0 == 1) (standing p.1.0) (kept p.1.1))

pub home_again : (h : Home) → home_back (home_parts h) ≡ h
home_again rendered = refl
home_again (standing name) = refl
home_again (kept n) = refl

abbrev pub home_code : Coded Home
home_code = code_by (ℕ × (List ℕ × ℕ)) (coded× coded_ℕ (coded× (coded_list coded_ℕ) coded_ℕ)) home_parts home_back home_again

-- a stream as its home and the name of the block, if it is one's
abbrev pub stream_parts : Stream → Home × Option (List ℕ)
stream_parts (own home) = (home, None)
stream_parts (block_of home block) = (home, Some block)

pub stream_again : (s : Stream) → stream_at (stream_parts s).0 (stream_parts s).1 ≡ s
stream_again (own home) = refl
stream_again (block_of home block) = refl

abbrev pub stream_code : Coded Stream
stream_code = code_by (Home × Option (List ℕ)) (coded× home_code (coded_option (coded_list coded_ℕ))) stream_parts (λ p. stream_at p.0 p.1) stream_again

abbrev pub bodies_code : Coded Bodies
bodies_code =
    code_by (List Home × ℕ) (coded× (coded_list home_code) coded_ℕ)
    (λ b. (b.homes, b.place)) (λ p. record { homes = p.0; place = p.1 }) (λ _. refl)

abbrev pub blocks_code : Coded (List (List ℕ × Bodies))
blocks_code = coded_list (coded× (coded_list coded_ℕ) bodies_code)
