use Rattle.std.proofs.Common.{refl}
use Rattle.std.specs.Int.{reverse_bits_onto}
use Rattle.dlms_cipher.specs.Field.{times_x, product, octet_product, block_product}
use Rattle.dlms_cipher.specs.Aes.{even_powers, inverse, affine, sbox, rcon, round_key, state_after, aes}
use Rattle.dlms_cipher.specs.Gcm.{mirror_of, poly_of, block_of, polys, power, ghash, counter_blocks, tag_of}
use Rattle.dlms_cipher.specs.Examples.{example_key, example_authentication, example_title, example_block, example_cipher, example_message, example_ciphertext, example_tag, example_challenge, example_answer}
use Rattle.dlms_cipher.proofs.laws.examples.Goals as goal

pub returns-clause-block : goal.returns-clause-block
unfolding times_x product octet_product even_powers inverse affine sbox rcon round_key state_after aes example_key example_block example_cipher
returns-clause-block c = refl

pub returns-clause-message : goal.returns-clause-message
unfolding times_x product octet_product even_powers inverse affine sbox rcon round_key state_after aes counter_blocks example_key example_title example_message example_ciphertext
returns-clause-message c = refl

pub returns-clause-tag : goal.returns-clause-tag
unfolding times_x product octet_product block_product even_powers inverse affine sbox rcon round_key state_after aes mirror_of reverse_bits_onto poly_of block_of polys power ghash tag_of example_key example_authentication example_title example_ciphertext example_tag
returns-clause-tag c = refl

pub returns-clause-answer : goal.returns-clause-answer
unfolding times_x product octet_product block_product even_powers inverse affine sbox rcon round_key state_after aes mirror_of reverse_bits_onto poly_of block_of polys power ghash tag_of example_key example_authentication example_title example_challenge example_answer
returns-clause-answer c = refl
