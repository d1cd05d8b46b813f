mod Chunked
